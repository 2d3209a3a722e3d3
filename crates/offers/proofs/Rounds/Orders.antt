-- Orders of offers lead from state to state as turns do: the turns of the process are the lowest-number order, an order is prolonged by
-- whoever may go, and of a sound round each offer of an order is one turn of the market.
use mathlib.Core.Path.{◌≡◌, refl, sym}
use mathlib.Core.Bool.{Bool, true}
use mathlib.Core.List.{List, [], ◌∷◌, ◌++◌}
use Prim.Native.Nat.{ℕ, zero, suc, ◌+◌, ◌<◌}
use native.Mathlib.Omega.{arith}
use native.Mathlib.Decide.{dec_lt}
use lib.Dec.{ltb}
use lib.ListN.{length}
use borrow.Author.Tests.{ltb-true, lt-ltb, le-ltb}
use Rattle.lists.specs.Lists.{first_of, sum_of}
use Rattle.round.specs.Round.{Round}
use Rattle.round.specs.Sound.{Sound}
use Rattle.lists.proofs.Words.{and_fst, and_snd}
use Rattle.offers.specs.Process.{offered, candidate_count, seats_after, may_offer, turn, turns, untried, entry_total, tried}
use Rattle.offers.specs.Orders.{may_go, all_may_go, state_from, Order, tried_in, lowest_from, lowest_first}
use Rattle.lists.proofs.FirstNumber.{first_passes}
use Rattle.offers.proofs.Rounds.Running.{state_of, Running}
use Rattle.offers.proofs.Rounds.Process.{MayTurn, turns_still, turn_running, turn_sum, may_offer_lem}

module _ (r : Round) where
  pub may_go_lem : (state : List ℕ) (i : ℕ) → i < candidate_count r → may_offer r state (seats_after r state) i ≡ true → may_go r state i ≡ true
  unfolding may_go
  may_go_lem state i l may = rw (lt-ltb i (candidate_count r) l, may)

  -- one who may go, and then those who may from there
  and_then : (state order : List ℕ) (i : ℕ) → may_go r state i ≡ true → all_may_go r (offered state i) order ≡ true → all_may_go r state (i ∷ order) ≡ true
  unfolding all_may_go
  and_then state order i this rest = rw (this, rest)

  first_goes : (state order : List ℕ) (i : ℕ) → all_may_go r state (i ∷ order) ≡ true → may_go r state i ≡ true
  unfolding all_may_go
  first_goes state order i e = and_fst _ _ e

  rest_go : (state order : List ℕ) (i : ℕ) → all_may_go r state (i ∷ order) ≡ true → all_may_go r (offered state i) order ≡ true
  unfolding all_may_go
  rest_go state order i e = and_snd (may_go r state i) _ e

  -- one more goes
  pub one_more : (state order : List ℕ) (i : ℕ) → all_may_go r state order ≡ true → may_go r (state_from r state order) i ≡ true
      → all_may_go r state (order ++ (i ∷ [])) ≡ true
  unfolding state_from all_may_go
  one_more state [] i e next = and_then state [] i next refl
  one_more state (k ∷ order) i e next =
      and_then state (order ++ (i ∷ [])) k (first_goes state order k e) (one_more (offered state k) order i (rest_go state order k e) next)

  -- the lowest number first is an order and leads where turns lead
  lowest_goes : (k : ℕ) (state : List ℕ) → (all_may_go r state (lowest_from r k state) ≡ true) × (state_from r state (lowest_from r k state) ≡ turns r k state)
  unfolding lowest_from turns turn all_may_go state_from
  lowest_goes zero state = (refl, refl)
  lowest_goes (suc k) state = elim (dec_lt i (candidate_count r)) [
    | yes l ↦
        let (rest, there) = lowest_goes k (offered state i) in
        rw (lt-ltb i (candidate_count r) l) (and_then state (lowest_from r k (offered state i)) i (may_go_lem state i l (first_passes (candidate_count r) may l)) rest, there)
    | no l ↦
        let nobody = le-ltb i (candidate_count r) (omega arith) in
        rw nobody (refl, sym (turns_still r k state (rw nobody refl)))
  ]
    where
      may : ℕ → Bool
      may = may_offer r state (seats_after r state)

      i : ℕ
      i = first_of (candidate_count r) may

  -- the process is the lowest-number order
  pub lowest_tried : Order r (lowest_first r) × (tried_in r (lowest_first r) ≡ tried r)
  unfolding lowest_first tried
  lowest_tried = lowest_goes (entry_total r) (untried r)

module _ {types : ℕ} {r : Round} (sound : Sound types r) where
  go_turn : {state : List ℕ} {i : ℕ} → Running r state → may_go r state i ≡ true → MayTurn r state i
  unfolding may_go
  go_turn {state} {i} run e =
      let inside : ltb i (candidate_count r) ≡ true = and_fst _ _ e in
      may_offer_lem sound run i (ltb-true _ _ inside) (and_snd (ltb i (candidate_count r)) _ e)

  -- an order leads from reached state to reached state
  pub order_running : (order : List ℕ) {state : List ℕ} → Running r state → all_may_go r state order ≡ true → Running r (state_from r state order)
  unfolding state_from
  order_running [] run e = run
  order_running (i ∷ order) {state} run e =
      order_running order (turn_running run (go_turn run (first_goes r state order i e))) (rest_go r state order i e)

  -- each who goes tries one entry
  pub order_sum : (order : List ℕ) {state : List ℕ} → Running r state → all_may_go r state order ≡ true
      → sum_of (candidate_count r) (state_of (state_from r state order)) ≡ sum_of (candidate_count r) (state_of state) + length order
  unfolding state_from
  order_sum [] run e = omega arith
  order_sum (i ∷ order) {state} run e =
      let turn : MayTurn r state i = go_turn run (first_goes r state order i e) in
      omega (arith, turn_sum run turn, order_sum order (turn_running run turn) (rest_go r state order i e))
