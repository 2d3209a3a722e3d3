-- The seats that are wrong by the bytes of the list and the tables are those that are wrong by the seats and the steps due.
use Prim.Native.Nat.{ℕ, suc, ◌-◌, ◌<◌}
use mathlib.Core.Path.{◌≡◌, sym, ◌∙◌, ap}
use mathlib.Core.Bool.{true, false, not, ◌&&◌, and-false}
use mathlib.Core.Logic.{◌≢◌}
use mathlib.Core.List.{List}
use native.Mathlib.Omega.{arith}
use lib.Dec.{eqb}
use lib.ListN.{get_or}
use borrow.Author.Tests.{eq-eqb, ne_eqb}
use Rattle.questions.specs.declared.form.Form.{Form}
use Rattle.lists.specs.Lists.{first_of}
use Rattle.round.specs.Round.{Round}
use Rattle.lists.proofs.Counting.{test}
use Rattle.offers.specs.Offers.{OfferSet, step_for}
use Rattle.offers.specs.Process.{Seat, is_none, candidate_count}
use Rattle.offers.specs.Areas.{seat_in}
use Rattle.offers.specs.Stable.{seat_on}
use Rattle.offers.specs.Listed.{in_row}
use Rattle.review.specs.Finding.{step_due, wrong}
use Rattle.offers.specs.Listed.{list_of}
use Rattle.offers.specs.Listed.{AllRead}
use Rattle.review.specs.Tables.{StepsGiven, wrong_by}
use Rattle.offers.proofs.FirstFound.{first_ext}
use Rattle.offers.proofs.InRow.{row_numbers}
use Rattle.offers.proofs.SeatsRanked.{seat_at}
use Rattle.review.proofs.SeatsOffered.{no_offer, offers_listed}

-- a seat is some
pub record SomeSeat (s : Seat) : Type 0 where
  pub some : is_none s ≡ false

-- by the institute and the step that the code has read of it
module _ (s : Seat) {institute : ℕ} (reads : institute ≡ s.institute) where
  pub some_institute : institute ≢ 0 → SomeSeat s
  some_institute d = record { some = rw (ne_eqb s.institute 0 (λ e. d (reads ∙ e))) }

  module _ {step : ℕ} (reads-step : step ≡ s.step) where
    pub some_step : eqb step 0 ≡ false → SomeSeat s
    some_step f = record { some = rw (← reads-step, f) (and-false (eqb s.institute 0)) }

    pub no_seat_lem : institute ≡ 0 → eqb step 0 ≡ true → is_none s ≡ true
    no_seat_lem e t = rw (← reads-step, eq-eqb s.institute 0 (sym reads ∙ e), t)

-- the tests by which the code finds a seat wrong, or not
module _ (form : Form) (list asked steps : List ℕ) (i : ℕ) where
  -- there is no seat
  pub nothing_wrong : is_none (seat_in form list i) ≡ true → false ≡ wrong_by form list asked steps i
  unfolding wrong_by
  nothing_wrong t = rw t

  -- there is a seat and no offer
  pub wrong_unoffered : SomeSeat (seat_in form list i) → get_or asked i 0 ≡ 0 → eqb (get_or asked i 0) 0 ≡ wrong_by form list asked steps i
  unfolding wrong_by
  wrong_unoffered s e = rw (s.some, eq-eqb (get_or asked i 0) 0 e)

  -- there is a seat and an offer: the step decides
  pub wrong_stepped : SomeSeat (seat_in form list i) → get_or asked i 0 ≢ 0 → {given step : ℕ} → given ≡ get_or steps i 0
      → step ≡ (seat_in form list i).step → not (eqb given step) ≡ wrong_by form list asked steps i
  unfolding wrong_by
  wrong_stepped s d e f = rw (s.some, ne_eqb (get_or asked i 0) 0 d, e, f)

module _ (r : Round) (form : Form) (list : List ℕ) {asked wanted steps : List ℕ}
    (read : AllRead r form list asked wanted) (steps_given : StepsGiven r asked wanted steps) where
  abbrev seats : List Seat
  seats = list_of form r list

  -- the step that the table has for a seat in the row is the one that is due
  pub step_due_lem : (i : ℕ) → i < candidate_count r → in_row r seats i ≡ true → get_or steps i 0 ≡ step_due r seats i
  unfolding step_due
  step_due_lem i l t =
      let j : ℕ = (seat_on seats i).institute - 1 in
      let numbers = row_numbers r seats i t in
      steps_given.given i j l (read.asked_at i l t ∙ (let e : (seat_on seats i).institute ≡ suc j = omega arith in e))
      ∙ ap (λ (offers : OfferSet). step_for r j offers i) (offers_listed read j)

  -- the tables have an offer and the step of the seat just where the seat is in the row and its step is the one that is due
  right_by : (i : ℕ) → i < candidate_count r
      → (not (eqb (get_or asked i 0) 0) && eqb (get_or steps i 0) (seat_on seats i).step)
      ≡ (in_row r seats i && eqb (step_due r seats i) (seat_on seats i).step)
  right_by i l =
      test (in_row r seats i)
      (λ t.
      let asked-some : eqb (get_or asked i 0) 0 ≡ false =
      ne_eqb (get_or asked i 0) 0 (λ z. omega (arith, read.asked_at i l t, row_numbers r seats i t)) in
      rw (asked-some, step_due_lem i l t, t))
      (λ f. rw (eq-eqb (get_or asked i 0) 0 (no_offer read i f), f))

  wrong_by_lem : (i : ℕ) → i < candidate_count r → wrong_by form list asked steps i ≡ wrong r seats i
  unfolding wrong_by wrong
  wrong_by_lem i l =
      ap (λ (s : Seat). not (is_none s) && not (not (eqb (get_or asked i 0) 0) && eqb (get_or steps i 0) s.step)) (sym (seat_at form r list i l))
      ∙ ap (λ b. not (is_none (seat_on seats i)) && not b) (right_by i l)

  pub first_wrong_by : first_of (candidate_count r) (wrong_by form list asked steps) ≡ first_of (candidate_count r) (wrong r seats)
  first_wrong_by = first_ext (candidate_count r) (wrong_by form list asked steps) (wrong r seats) wrong_by_lem
