-- In a list without a wrong seat where no entry above a seat would be chosen, no set blocks.
use Prim.Native.Nat.{ℕ, suc, ◌-◌, ◌≤◌, ◌<◌}
use mathlib.Core.Path.{◌≡◌, sym, ◌∙◌, ap}
use mathlib.Core.Bool.{true}
use mathlib.Core.Logic.{⊎_elim}
use mathlib.Core.List.{List}
use native.Mathlib.Omega.{arith}
use lib.ListN.{length}
use borrow.Author.Tests.{lt-ltb}
use Rattle.round.specs.declared.entry.Category.{Category}
use Rattle.round.specs.Round.{Round}
use Rattle.round.specs.Places.{candidate_at, entry_at}
use Rattle.round.specs.Sound.{Sound}
use Rattle.std.proofs.lemmas.Bool.{or_cases}
use Rattle.lists.proofs.Counting.{clash, same_or, or_right}
use Rattle.lists.proofs.FirstNumber.{first_least}
use Rattle.offers.specs.Rows.{row_at, rank_in, entry_of}
use Rattle.offers.specs.Offers.{OfferSet, steps_on}
use Rattle.offers.specs.Process.{Seat, candidate_count, institute_count}
use Rattle.offers.specs.Standing.{standing}
use Rattle.offers.specs.Stable.{seat_on, seat_offers, OfRows, Same, together, WouldChoose, SomeBelow}
use Rattle.offers.proofs.Rounds.Agreed.{taken_by_steps}
use Rattle.offers.proofs.Rounds.Below.{NoneBelow, below_or_none}
use Rattle.offers.proofs.Rounds.FirstDifference.{NewlyTakenFrom, first_difference_on}
use Rattle.offers.proofs.Rounds.Numbered.{rank_found}
use Rattle.review.specs.Finding.{with_entry, would_take, best, better}
use Rattle.offers.specs.Listed.{above}
use Rattle.review.proofs.NobodyWrong.{NobodyWrong}
use Rattle.review.proofs.SeatsRight.{standing_above, above_given, taken_given, entry_with_lem, given_with, with_cases}
use Rattle.review.proofs.NothingBetter.{NothingBetter, Unblocked}

module _ {types : ℕ} {r : Round} (sound : Sound types r) (list : List Seat) (many : length list ≡ candidate_count r) (right : NobodyWrong r list) where
  -- another set that an institute would choose, without an offer below a seat, has an entry above a seat that would be chosen
  module _ (j : ℕ) (set : OfferSet) (hj : j < institute_count r) (rows : OfRows r j set) (other : Same r set (seat_offers r list j) → ⊥)
      (would : WouldChoose r list j set) where
    abbrev both : OfferSet
    both = together r list j set

    same_steps_same : steps_on r j (seat_offers r list j) ≡ steps_on r j both → Same r set (seat_offers r list j)
    unfolding Same WouldChoose
    same_steps_same e i c hi = sym (would i c hi) ∙ sym (taken_by_steps r j (seat_offers r list j) both e i c) ∙ taken_given r list many right j i c hj hi

    module _ (new : NewlyTakenFrom r j (seat_offers r list j) both) (none : NoneBelow r list j set) where
      abbrev i : ℕ
      i = new.candidate

      abbrev c : Category
      c = new.category

      abbrev rank : ℕ
      rank = rank_in (row_at r i) (entry_of j c)

      in_set_lem : set i c ≡ true
      in_set_lem = ⊎_elim (λ (t : set i c ≡ true). t) (λ (t : seat_offers r list j i c ≡ true). clash t new.outside) (or_cases (set i c) _ new.wanted)

      in_row_of : rank < length (row_at r i)
      unfolding OfRows
      in_row_of = (rows i c in_set_lem).1

      -- it ranks above the seat
      rank_above : rank < above r list i
      rank_above =
          let most : rank ≤ standing r i (seat_on list i) = none i new.inside c in_set_lem in
          same_or rank (above r list i) (λ e. clash (above_given r list many right j i c new.inside e in_row_of) new.outside)
          (λ d. omega (arith, standing_above r list many right i new.inside))

      taken_one : would_take r list i (entry_at (candidate_at r i) rank) ≡ true
      unfolding would_take
      taken_one =
          let back : suc j - 1 ≡ j = omega arith in
          rw (rank_found (row_at r i) (entry_of j c) in_row_of, back)
          (new.takes (with_entry r list j i c) (given_with r list many right j i c)
          (λ k d t. ⊎_elim (λ (u : seat_offers r list j k d ≡ true). or_right (set k d) _ u)
          (λ (u : (k ≡ i) × (d ≡ c)). ap (λ q. both q d) u.0 ∙ ap (λ (e : Category). both i e) u.1 ∙ new.wanted) (with_cases r list many right j i c k d t))
          (entry_with_lem r list many right j i c))

      named : better r list i ≡ true
      unfolding better best
      named = lt-ltb (best r list i) (above r list i) (omega (arith, first_least (above r list i) (λ k. would_take r list i (entry_at (candidate_at r i) k)) rank taken_one, rank_above))

    some_offer_below : NothingBetter r list → SomeBelow r list j set
    some_offer_below nothing =
        ⊎_elim (λ (some : SomeBelow r list j set). some) (λ (none : NoneBelow r list j set). absurd (blocked none)) (below_or_none r list j set)
      where
        blocked : NoneBelow r list j set → ⊥
        blocked none =
            ⊎_elim (λ (e : steps_on r j (seat_offers r list j) ≡ steps_on r j both). other (same_steps_same e))
            (λ (new : NewlyTakenFrom r j (seat_offers r list j) both). clash (named new none) (nothing new.candidate new.inside))
            (first_difference_on r j (sound.institute j hj) (seat_offers r list j) both (λ k d t. or_right (set k d) _ t))

  pub unblocked : NothingBetter r list → Unblocked r list
  unblocked nothing j set hj rows other would = some_offer_below j set hj rows other would nothing
