-- In a list without a wrong seat that no set blocks, no entry above a seat would be chosen.
use Prim.Native.Nat.{ℕ, suc, ◌-◌, ◌≤◌, ◌<◌}
use mathlib.Core.Path.{◌≡◌, sym, ◌∙◌, ap}
use mathlib.Core.Bool.{true, false}
use mathlib.Core.Logic.{◌⊎◌, inl, inr}
use mathlib.Core.List.{List}
use native.Mathlib.Omega.{arith}
use lib.ListN.{length}
use borrow.Author.Tests.{le-ltb}
use Rattle.round.specs.declared.entry.Category.{Category}
use Rattle.round.specs.declared.entry.Entry.{Entry}
use Rattle.round.specs.Round.{Round}
use Rattle.round.specs.Places.{candidate_at, entry_at}
use Rattle.round.specs.Sound.{Sound}
use Rattle.lists.proofs.Counting.{test}
use Rattle.lists.proofs.FirstNumber.{first_none}
use Rattle.offers.specs.Rows.{row_at, rank_in, entry_of}
use Rattle.offers.specs.Offers.{OfferSet, taken_from}
use Rattle.offers.specs.Process.{Seat, candidate_count, institute_count}
use Rattle.offers.specs.Stable.{seat_offers, OfRows, Same, WouldChoose, SomeBelow}
use Rattle.offers.proofs.Rounds.Numbered.{rank_place}
use Rattle.review.specs.Finding.{with_entry, would_take, best, better}
use Rattle.offers.specs.Listed.{above}
use Rattle.offers.proofs.InRow.{above_within, given_below}
use Rattle.review.proofs.NobodyWrong.{NobodyWrong}
use Rattle.review.proofs.SeatsRight.{standing_above, given_above, taken_with, taken_with_lem, with_cases, taken_together}

-- nobody is named for a better entry
abbrev pub NothingBetter : Round → List Seat → Type 0
NothingBetter r list = (i : ℕ) → i < candidate_count r → better r list i ≡ false

-- no other set of listed seats blocks the list
abbrev pub Unblocked : Round → List Seat → Type 0
Unblocked r list =
    (j : ℕ) (offers : OfferSet) → j < institute_count r → OfRows r j offers →
    (Same r offers (seat_offers r list j) → ⊥) →
    WouldChoose r list j offers → SomeBelow r list j offers

module _ {types : ℕ} {r : Round} (sound : Sound types r) (list : List Seat) (many : length list ≡ candidate_count r) (right : NobodyWrong r list) where
  -- an entry above a seat that would be chosen blocks the list: the institute would choose all that it then takes
  module _ (i p : ℕ) (l : i < candidate_count r) (m : p < above r list i) where
    abbrev entry : Entry
    entry = entry_at (candidate_at r i) p

    abbrev j : ℕ
    j = entry.institute - 1

    abbrev c : Category
    c = entry.category

    listed : p < length (row_at r i)
    listed = omega (arith, above_within r list i)

    entry_is : entry_of j c ≡ entry
    entry_is =
        let q : suc (entry.institute - 1) ≡ entry.institute = omega (arith, (sound.candidate i l).row_sound.entry_from p listed) in
        λ k. record { institute = q k; category = c }

    rank_is : rank_in (row_at r i) (entry_of j c) ≡ p
    rank_is = ap (λ (e : Entry). rank_in (row_at r i) e) entry_is ∙ rank_place r i (sound.candidate i l) p listed

    inside : j < institute_count r
    inside = omega (arith, (sound.candidate i l).row_sound.entry_from p listed, (sound.candidate i l).row_sound.entry_to p listed)

    not_given : seat_offers r list j i c ≡ true → ⊥
    not_given t = omega (arith, (given_above r list many right j i c l t).0, rank_is)

    with_rows : (k : ℕ) (d : Category) → with_entry r list j i c k d ≡ true
        → (k < candidate_count r) × (rank_in (row_at r k) (entry_of j d) < length (row_at r k)) × (rank_in (row_at r k) (entry_of j d) ≤ above r list k)
    with_rows k d t = go (with_cases r list many right j i c k d t)
      where
        go : (seat_offers r list j k d ≡ true) ⊎ ((k ≡ i) × (d ≡ c))
            → (k < candidate_count r) × (rank_in (row_at r k) (entry_of j d) < length (row_at r k)) × (rank_in (row_at r k) (entry_of j d) ≤ above r list k)
        go (inl u) =
            let hk = given_below r list many k j d u in
            let at = given_above r list many right j k d hk u in
            (hk, omega (arith, at.0, at.1), omega (arith, at.0))
        go (inr (k-is, d-is)) =
            let rank : rank_in (row_at r k) (entry_of j d) ≡ p =
            ap (λ q. rank_in (row_at r q) (entry_of j d)) k-is ∙ ap (λ (e : Category). rank_in (row_at r i) (entry_of j e)) d-is ∙ rank_is in
            let long : length (row_at r k) ≡ length (row_at r i) = ap (λ q. length (row_at r q)) k-is in
            let end : above r list k ≡ above r list i = ap (above r list) k-is in
            (omega (arith, l), omega (arith, listed), omega (arith, m))

    pub entry_refused : Unblocked r list → would_take r list i entry ≡ false
    unfolding would_take OfRows Same WouldChoose SomeBelow
    entry_refused unblocked = test (taken_with r list many right j i c i c) (λ t. absurd (blocked t)) (λ f. f)
      where
        blocked : taken_with r list many right j i c i c ≡ true → ⊥
        blocked t =
            let rows : (k : ℕ) (d : Category) → taken_with r list many right j i c k d ≡ true → (k < candidate_count r) × (rank_in (row_at r k) (entry_of j d) < length (row_at r k)) =
            λ k d u. let at = with_rows k d (taken_with_lem r list many right j i c k d u) in (at.0, at.1) in
            let (k, d, u, below) =
            unblocked j (taken_with r list many right j i c) inside rows (λ same. not_given (sym (same i c l) ∙ t))
            (λ k d hk. ap (λ (Y : OfferSet). taken_from r j Y k d) (taken_together r list many right j i c t)) in
            let at = with_rows k d (taken_with_lem r list many right j i c k d u) in
            omega (arith, at.2, standing_above r list many right k at.0)

  pub nothing_better : Unblocked r list → NothingBetter r list
  unfolding better best
  nothing_better unblocked i l =
      le-ltb (best r list i) (above r list i)
      (omega (arith, first_none (above r list i) (λ k. would_take r list i (entry_at (candidate_at r i) k)) (λ p m. entry_refused i p l m unblocked)))
