-- No seat is wrong exactly where every seat is listed and each institute, choosing from just the seats it gave, gives the same seats at the same
-- steps.
use Prim.Native.Nat.{ℕ, suc, ◌-◌, ◌≤◌, ◌<◌}
use mathlib.Core.Path.{◌≡◌, refl, sym, ◌∙◌, ap}
use mathlib.Core.Bool.{Bool, true, false, not, ◌&&◌}
use mathlib.Core.List.{List}
use native.Mathlib.Omega.{arith}
use lib.Dec.{eqb}
use lib.ListN.{length}
use borrow.Author.Tests.{eqb-true, eq-eqb, ne_eqb}
use Rattle.round.specs.Round.{Round}
use Rattle.lists.proofs.Words.{and_fst, and_snd}
use Rattle.lists.proofs.Counting.{test, same_or}
use Rattle.offers.specs.Rows.{row_at}
use Rattle.offers.specs.Offers.{OfferSet, step_for}
use Rattle.offers.specs.Process.{Seat, is_none, candidate_count, institute_count}
use Rattle.offers.specs.Standing.{standing}
use Rattle.offers.specs.Stable.{seat_on, seat_offers, step_of}
use Rattle.offers.proofs.Rounds.Agreed.{step_taken}
use Rattle.offers.proofs.Rounds.FirstDifference.{taken_offered}
use Rattle.offers.specs.Listed.{in_row, listed_at}
use Rattle.review.specs.Finding.{step_due, wrong}
use Rattle.offers.proofs.InRow.{AllInRow, in_row_lem, not_none, none_stands, listed_in_row, given_at, listed_given}

-- nobody is named for a wrong seat
abbrev pub NobodyWrong : Round → List Seat → Type 0
NobodyWrong r list = (i : ℕ) → i < candidate_count r → wrong r list i ≡ false

-- each institute, choosing from just the seats it gave, gives the same seats at the same steps
abbrev pub Kept : Round → List Seat → Type 0
Kept r list = (j i : ℕ) → j < institute_count r → i < candidate_count r → step_for r j (seat_offers r list j) i ≡ step_of r list j i

abbrev pub Listed : Round → List Seat → Type 0
Listed r list = (i : ℕ) → i < candidate_count r → standing r i (seat_on list i) ≤ length (row_at r i)

neither : (a b : Bool) → not a && not b ≡ false → a ≡ false → b ≡ true
neither a true e f = refl
neither true false e f = sym f
neither false false e f = sym e

module _ (r : Round) (list : List Seat) (many : length list ≡ candidate_count r) where
  module _ (right : NobodyWrong r list) where
    -- a seat that is not wrong
    seat_right : (i : ℕ) → i < candidate_count r → is_none (seat_on list i) ≡ false → (in_row r list i && eqb (step_due r list i) (seat_on list i).step) ≡ true
    unfolding wrong
    seat_right i l none = neither (is_none (seat_on list i)) _ (right i l) none

    pub all_in_row : AllInRow r list
    all_in_row i l none = and_fst (in_row r list i) _ (seat_right i l none)

    pub all_listed : Listed r list
    all_listed i l =
        test (is_none (seat_on list i)) (λ none. omega (arith, none_stands r list i none))
        (λ some. let known = in_row_lem r list i (all_in_row i l some) in omega (arith, known.stands, known.short))

    step_kept : (j i : ℕ) → i < candidate_count r → (seat_on list i).institute ≡ suc j → step_for r j (seat_offers r list j) i ≡ (seat_on list i).step
    unfolding step_due
    step_kept j i l at =
        let due : step_due r list i ≡ (seat_on list i).step = eqb-true _ _ (and_snd (in_row r list i) _ (seat_right i l (not_none r list i at))) in
        let same : (seat_on list i).institute - 1 ≡ j = omega (arith, at) in
        ap (λ (Y : OfferSet). step_for r j Y i) (sym (listed_given r list many all_in_row j)) ∙ (rw same at due)

    pub all_kept : Kept r list
    unfolding step_of
    all_kept j i hj l =
        same_or (seat_on list i).institute (suc j)
        (λ at. rw (eq-eqb _ _ at) (step_kept j i l at))
        (λ other.
        rw (ne_eqb _ _ other)
        (same_or (step_for r j (seat_offers r list j) i) 0 (λ z. z)
        (λ some. absurd (other (given_at r list i j _ (taken_offered r j (seat_offers r list j) i _ (step_taken r j (seat_offers r list j) i some))).0))))

  pub nobody_wrong : Listed r list → Kept r list → NobodyWrong r list
  unfolding wrong step_due step_of
  nobody_wrong listed kept i l =
      test (is_none (seat_on list i)) (λ none. rw none)
      (λ some.
      let known = in_row_lem r list i (rows i l some) in
      let j : ℕ = known.institute in
      let same : (seat_on list i).institute - 1 ≡ j = omega (arith, known.at) in
      let step : step_for r j (listed_at r list j) i ≡ (seat_on list i).step =
      ap (λ (Y : OfferSet). step_for r j Y i) (listed_given r list many rows j)
      ∙ (rw (eq-eqb _ _ known.at) at (kept j i known.inside l)) in
      rw (some, rows i l some, same, eq-eqb _ _ step))
    where
      rows : AllInRow r list
      rows k m none = listed_in_row r list k none (listed k m)
