-- The process of document 01 is the market's: its turns lead from reached state to reached state, and it ends in the final one.
use mathlib.Core.Path.{◌≡◌, refl, sym, ◌∙◌, ap, subst⁻¹}
use mathlib.Core.Bool.{Bool, true, false, cond}
use mathlib.Core.Logic.{◌⊎◌, inl, inr}
use mathlib.Core.List.{List}
use Prim.Native.Nat.{ℕ, zero, suc, ◌+◌, ◌≤◌, ◌<◌}
use native.Mathlib.Omega.{arith}
use native.Mathlib.Decide.{dec_lt}
use lib.ListN.{length, get_or, length-set, length-replicate}
use borrow.Author.Tests.{ltb-true, ltb-false, lt-ltb, le-ltb, ne_eqb}
use Rattle.lists.specs.Lists.{first_of, sum_of}
use Rattle.round.specs.Round.{Round}
use Rattle.round.specs.Sound.{Sound}
use Rattle.lists.proofs.Words.{and_fst, and_snd, and_no}
use Rattle.lists.proofs.Counting.{clash, sum_of_le}
use Rattle.lists.proofs.Tabulate.{get_or_zeros}
use Rattle.offers.specs.Rows.{row_at}
use Rattle.offers.specs.Process.{no_seat, is_none, offered, candidate_count, seats_after, may_offer, turn, turns, untried, entry_total, tried, offers_made}
use Rattle.market.proofs.Laws.{Unheld}
use Rattle.market.proofs.Reached.{start, step, Served, Closed, Final, set_turned, turned_sum, reached_fits}
use Rattle.market.proofs.AnyOrder as AnyOrder
use Rattle.offers.proofs.Rounds.Numbered.{number_of, row_by, rows_of}
use Rattle.lists.proofs.FirstNumber.{first_passes, first_before}
use Rattle.offers.proofs.Rounds.Institutes.{choice_of}
use Rattle.offers.proofs.Rounds.Running.{state_of, made, Running}
use Rattle.offers.proofs.Rounds.Counted.{entries, state_sum, state_most}
use Rattle.offers.proofs.Rounds.Seats.{Seated, Unseated, seat_of}

module _ (r : Round) where
  pub start_running : Running r (untried r)
  start_running = record {
    each = length-replicate (candidate_count r) 0;
    reached = start (get_or_zeros (candidate_count r));
  }

-- candidate i has a turn
pub record MayTurn (r : Round) (state : List ℕ) (i : ℕ) : Type 0 where
  pub inside : i < candidate_count r
  pub none : Unheld (choice_of r) (made r state) i
  pub more : state_of state i < (rows_of r i).len

pub turn_running : {r : Round} {state : List ℕ} {i : ℕ} → Running r state → MayTurn r state i → Running r (offered state i)
turn_running {r} {state} {i} run may = record {
  each = length-set state i (suc (get_or state i 0)) ∙ run.each;
  reached = step i run.reached may.inside may.none may.more (set_turned state i (suc (get_or state i 0)) (omega (arith, run.each)) refl);
}

pub turn_sum : {r : Round} {state : List ℕ} {i : ℕ} → Running r state → MayTurn r state i
    → sum_of (candidate_count r) (state_of (offered state i)) ≡ suc (sum_of (candidate_count r) (state_of state))
turn_sum {r} {state} {i} run may =
    turned_sum (candidate_count r) may.inside (set_turned state i (suc (get_or state i 0)) (omega (arith, run.each)) refl)

abbrev pub ClosedIn : Round → List ℕ → Type 0
ClosedIn r state = Closed (candidate_count r) (choice_of r) (rows_of r) (state_of state)

abbrev pub FinalIn : Round → List ℕ → Type 0
FinalIn r state = Final (candidate_count r) (choice_of r) (rows_of r) (state_of state)

-- somebody has a turn and takes it, or the state is closed and stays
abbrev pub Next : Round → List ℕ → Type 0
Next r state = ((i : ℕ) × MayTurn r state i × (turn r state ≡ offered state i)) ⊎ (ClosedIn r state × (turn r state ≡ state))

seated_some : {r : Round} {state : List ℕ} {i : ℕ} → Seated r state i → is_none (get_or (seats_after r state) i no_seat) ≡ false
seated_some s = ap is_none s.seat ∙ rw (ne_eqb (suc s.institute) 0 (λ z. omega arith))

unseated_none : {r : Round} {state : List ℕ} {i : ℕ} → Unseated r state i → is_none (get_or (seats_after r state) i no_seat) ≡ true
unseated_none s = ap is_none s.seat

-- nothing changes any more
pub turns_still : (r : Round) (k : ℕ) (state : List ℕ) → turn r state ≡ state → turns r k state ≡ state
unfolding turns
turns_still r zero state e = refl
turns_still r (suc k) state e = ap (turns r k) e ∙ turns_still r k state e

module _ {types : ℕ} {r : Round} (sound : Sound types r) where
  -- who may offer has a turn
  pub may_offer_lem : {state : List ℕ} → Running r state → (i : ℕ) → i < candidate_count r → may_offer r state (seats_after r state) i ≡ true → MayTurn r state i
  unfolding may_offer row_by
  may_offer_lem {state} run i hi t = go (seat_of sound run i hi)
    where
      go : Seated r state i ⊎ Unseated r state i → MayTurn r state i
      go (inl s) = clash (and_fst (is_none (get_or (seats_after r state) i no_seat)) _ t) (seated_some s)
      go (inr s) = record {
        inside = hi;
        none = s.none;
        more = ltb-true _ _ (and_snd (is_none (get_or (seats_after r state) i no_seat)) _ t);
      }

  -- who may not offer is served
  pub not_offer : {state : List ℕ} → Running r state → (i : ℕ) → i < candidate_count r → may_offer r state (seats_after r state) i ≡ false
      → Served (choice_of r) (rows_of r) (state_of state) i
  unfolding may_offer row_by
  not_offer {state} run i hi f = go (seat_of sound run i hi)
    where
      go : Seated r state i ⊎ Unseated r state i → Served (choice_of r) (rows_of r) (state_of state) i
      go (inl s) = inl (number_of s.institute s.category, s.holds)
      go (inr s) =
          let full : length (row_at r i) ≤ get_or state i 0 = ltb-false _ _ (and_no (is_none (get_or (seats_after r state) i no_seat)) _ f (unseated_none s)) in
          inr (omega (arith, reached_fits run.reached i))

  -- a turn, or nobody has one
  turn_or_closed : {state : List ℕ} → Running r state → Next r state
  unfolding turn
  turn_or_closed {state} run = elim (dec_lt i (candidate_count r)) [
    | yes l ↦ inl (i, may_offer_lem run i l (first_passes (candidate_count r) may l), ap (λ b. cond b (offered state i) state) (lt-ltb i (candidate_count r) l))
    | no l ↦
        inr (
          record {
            fits = reached_fits run.reached;
            served = λ p m. not_offer run p m (first_before (candidate_count r) may p (omega arith));
          },
          ap (λ b. cond b (offered state i) state) (le-ltb i (candidate_count r) (omega arith)),
        )
  ]
    where
      may : ℕ → Bool
      may = may_offer r state (seats_after r state)

      i : ℕ
      i = first_of (candidate_count r) may

  next_running : {state : List ℕ} → Running r state → Running r (turn r state)
  next_running {state} run = go (turn_or_closed run)
    where
      go : Next r state → Running r (turn r state)
      go (inl (i, may, e)) = subst⁻¹ (Running r) e (turn_running run may)
      go (inr (c, e)) = subst⁻¹ (Running r) e run

  turns_running : (k : ℕ) {state : List ℕ} → Running r state → Running r (turns r k state)
  unfolding turns
  turns_running zero run = run
  turns_running (suc k) run = turns_running k (next_running run)

  turns_final : (k : ℕ) {state : List ℕ} → Running r state → sum_of (candidate_count r) (λ i. (rows_of r i).len) ≤ sum_of (candidate_count r) (state_of state) + k
      → FinalIn r (turns r k state)
  unfolding turns
  turns_final zero {state} run few = go (turn_or_closed run)
    where
      go : Next r state → FinalIn r state
      go (inl (i, may, e)) = absurd (omega (arith, turn_sum run may, sum_of_le (candidate_count r) (state_of (offered state i)) (λ i. (rows_of r i).len) (λ p l. reached_fits (turn_running run may).reached p)))
      go (inr (c, e)) = record { reached = run.reached; closed = c }
  turns_final (suc k) {state} run few = go (turn_or_closed run) (λ next. turns_final k {state = next})
    where
      go : Next r state
          → ((next : List ℕ) → Running r next → sum_of (candidate_count r) (λ i. (rows_of r i).len) ≤ sum_of (candidate_count r) (state_of next) + k
          → FinalIn r (turns r k next))
          → FinalIn r (turns r k (turn r state))
      go (inl (i, may, e)) ih =
          subst⁻¹ (λ next. FinalIn r (turns r k next)) e
          (ih (offered state i) (turn_running run may) (omega (arith, turn_sum run may)))
      go (inr (c, e)) ih =
          subst⁻¹ (FinalIn r) (ap (turns r k) e ∙ turns_still r k state e)
          record { reached = run.reached; closed = c }

  pub tried_running : Running r (tried r)
  unfolding tried
  tried_running = turns_running (entry_total r) (start_running r)

  pub tried_final : FinalIn r (tried r)
  unfolding tried
  tried_final = turns_final (entry_total r) (start_running r) (omega (arith, entries r))

  -- each turn is one offer: as many as turns, and at most as many as entries
  pub offers_turns : offers_made r ≡ AnyOrder.turns tried_final.reached
  unfolding offers_made
  offers_turns = state_sum tried_running ∙ sym (AnyOrder.turns_sum tried_final.reached)

  pub offers_most : offers_made r ≤ entry_total r
  unfolding offers_made
  offers_most = state_most tried_running
