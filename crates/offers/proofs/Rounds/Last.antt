-- In a state that turns lead to, the entries tried last say all: the steps that an institute gives and the seat of a candidate.
use mathlib.Core.Path.{◌≡◌, refl, sym, ◌∙◌, ap}
use mathlib.Core.Bool.{Bool, true, false, cond}
use mathlib.Core.List.{List}
use Prim.Native.Nat.{ℕ, suc, ◌<◌}
use native.Mathlib.Omega.{arith}
use lib.Dec.{eqb}
use lib.ListN.{get_or}
use borrow.Author.Tests.{eqb-true, eqb-false, eq-eqb, lt-ltb}
use Rattle.round.specs.declared.entry.Category.{Category}
use Rattle.round.specs.Round.{Round}
use Rattle.round.specs.Sound.{Sound}
use Rattle.lists.proofs.Counting.{same_or, clash, false_unless}
use Rattle.offers.specs.Rows.{row_at, rank_in, entry_of, category_at}
use Rattle.offers.specs.Offers.{OfferSet, steps_on, step_for}
use Rattle.offers.specs.Process.{no_seat, candidate_count, institute_count, made_to, seats_after, may_offer}
use Rattle.offers.specs.Process.{last_to}
use Rattle.market.proofs.Rows.{one_entry}
use Rattle.market.proofs.Reached.{reached_fits}
use Rattle.market.proofs.Alone.{alone}
use Rattle.offers.proofs.Rounds.Numbered.{number_of, rows_of, rows_rank, rows_ranked}
use Rattle.offers.proofs.Rounds.Institutes.{round_market}
use Rattle.offers.proofs.Rounds.Agreed.{same_steps_on}
use Rattle.offers.proofs.Rounds.Running.{held, held_at, Running, one_at}
use Rattle.offers.proofs.Rounds.Seats.{step_in, step_held, held_step, seat_held_lem, seat_unheld}
use Rattle.offers.proofs.Rounds.Process.{may_offer_lem}

-- an entry tried last was tried
last_made : (r : Round) (state : List ℕ) (i j : ℕ) (c : Category) → last_to r state j i c ≡ true → made_to r state j i c ≡ true
unfolding last_to made_to
last_made r state i j c t =
    let rank : ℕ = rank_in (row_at r i) (entry_of j c) in
    lt-ltb rank (get_or state i 0) (omega (arith, eqb-true (suc rank) (get_or state i 0) t))

module _ {types : ℕ} {r : Round} (sound : Sound types r) {state : List ℕ} (run : Running r state) where
  -- only the entry tried last is held
  held_tried : (i e : ℕ) → held r state i e ≡ true → suc ((rows_of r i).rank e) ≡ get_or state i 0
  held_tried = alone (round_market r sound) run.reached

  held_last : (i j : ℕ) (c : Category) → held r state i (number_of j c) ≡ true → last_to r state j i c ≡ true
  unfolding last_to
  held_last i j c t = eq-eqb _ _ (sym (ap suc (rows_rank r i j c)) ∙ held_tried i (number_of j c) t)

  -- what holds a candidate is the entry tried last
  last_held : (i j : ℕ) (c : Category) → i < candidate_count r → last_to r state j i c ≡ true → (e : ℕ) → held r state i e ≡ true → e ≡ number_of j c
  unfolding last_to
  last_held i j c hi t e q =
      let last : suc (rank_in (row_at r i) (entry_of j c)) ≡ get_or state i 0 = eqb-true _ _ t in
      one_entry (rows_of r i) (rows_ranked r i (sound.candidate i hi)) e (number_of j c)
      (omega (arith, held_tried i e q, reached_fits run.reached i))
      (omega (arith, held_tried i e q, rows_rank r i j c))

  -- an institute gives the steps of all offers ever made to it from the entries tried last alone
  pub last_steps : (j : ℕ) → j < institute_count r → (X : OfferSet) → ((i : ℕ) → i < candidate_count r → (c : Category) → X i c ≡ last_to r state j i c)
      → steps_on r j X ≡ steps_on r j (made_to r state j)
  last_steps j hj X alike =
      same_steps_on r j (sound.institute j hj) X (made_to r state j) (one_at sound run j hj)
      (λ i hi c t. last_made r state i j c (sym (alike i hi c) ∙ t))
      (λ i hi c t. alike i hi c ∙ held_last i j c (held_at r state i j c hi hj ∙ t))

  -- the seat of a candidate is at the institute of the entry tried last, or none
  pub seat_last : (i j : ℕ) (c : Category) → i < candidate_count r → j < institute_count r → last_to r state j i c ≡ true
      → get_or (seats_after r state) i no_seat ≡ cond (eqb (step_for r j (made_to r state j) i) 0) no_seat (record { institute = suc j; step = step_for r j (made_to r state j) i })
  seat_last i j c hi hj t = go (eqb (step_in r state j i) 0) refl
    where
      go : (b : Bool) → eqb (step_in r state j i) 0 ≡ b
          → get_or (seats_after r state) i no_seat ≡ cond b no_seat (record { institute = suc j; step = step_in r state j i })
      go true z =
          seat_unheld sound run i hi
          (λ e. false_unless (held r state i e)
          (λ q. (held_step sound run i j c hi hj (sym (ap (held r state i) (last_held i j c hi t e q)) ∙ q)).0 (eqb-true _ 0 z)))
      go false z = seat_held_lem sound run i j (category_at r j (step_in r state j i)) hi hj (step_held sound run i j hi hj (eqb-false _ 0 z))

  -- who has tried nothing has no seat
  pub seat_untried : (i : ℕ) → i < candidate_count r → get_or state i 0 ≡ 0 → get_or (seats_after r state) i no_seat ≡ no_seat
  seat_untried i hi z = seat_unheld sound run i hi (λ e. false_unless (held r state i e) (λ q. omega (arith, held_tried i e q)))

  -- who may offer is given no step anywhere
  pub may_unstepped : (i j : ℕ) → i < candidate_count r → j < institute_count r → may_offer r state (seats_after r state) i ≡ true → step_for r j (made_to r state j) i ≡ 0
  may_unstepped i j hi hj may =
      same_or (step_in r state j i) 0 (λ z. z) (λ d. clash (step_held sound run i j hi hj d) ((may_offer_lem sound run i hi may).none _))
