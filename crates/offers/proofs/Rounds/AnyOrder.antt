-- Offers of a sound round in any order end, and they end with the same entries tried, and so with the same list after as many offers.
use mathlib.Core.Path.{◌≡◌, sym, ◌∙◌, ap}
use mathlib.Core.Bool.{Bool, true}
use mathlib.Core.List.{List, [], ◌∷◌, ◌++◌}
use Prim.Native.Nat.{ℕ}
use native.Mathlib.Omega.{arith}
use native.Mathlib.Decide.{dec_lt}
use lib.ListN.{length, get_or}
use lib.Seq.{ext_get_or}
use Rattle.lists.specs.Lists.{first_of, list_sum}
use Rattle.round.specs.Round.{Round}
use Rattle.round.specs.Sound.{Sound}
use Rattle.lists.proofs.Counting.{sum_of_zero}
use Rattle.lists.proofs.Tabulate.{get_or_zeros}
use Rattle.offers.specs.Process.{candidate_count, seats_after, may_offer, untried, tried, offers_made, seats}
use Rattle.offers.specs.Ended.{Ended}
use Rattle.offers.specs.Orders.{may_go, Order, tried_in, SameEnd, OrderHolds, AnyOrder}
use Rattle.market.proofs.Rows.{State}
use Rattle.market.proofs.Reached.{Final, reached_fits}
use Rattle.market.proofs.AnyOrder.{any_order_lem}
use Rattle.offers.proofs.Rounds.Numbered.{rows_of}
use Rattle.lists.proofs.FirstNumber.{first_passes, first_before}
use Rattle.offers.proofs.Rounds.Institutes.{choice_of, round_market}
use Rattle.offers.proofs.Rounds.Running.{state_of, Running}
use Rattle.offers.proofs.Rounds.Counted.{state_sum, state_most}
use Rattle.offers.proofs.Rounds.Process.{start_running, not_offer, tried_running, tried_final}
use Rattle.offers.proofs.Rounds.AtEnd.{one_institute}
use Rattle.offers.proofs.Rounds.Orders.{may_go_lem, one_more, lowest_tried, order_running, order_sum}

-- where the offers have not ended somebody may go next
not_ended : (r : Round) (state : List ℕ) → (Ended r state → ⊥) → (i : ℕ) × (may_go r state i ≡ true)
not_ended r state goes = elim (dec_lt (first_of n may) n) [
  | yes l ↦ (first_of n may, may_go_lem r state (first_of n may) l (first_passes n may l))
  | no l ↦ absurd (goes (λ i m. first_before n may i (omega arith)))
]
  where
    n : ℕ
    n = candidate_count r

    may : ℕ → Bool
    may = may_offer r state (seats_after r state)

module _ {types : ℕ} {r : Round} (sound : Sound types r) where
  -- any reached and closed state of the market is that of the process
  final_tried : {t : State} → Final (candidate_count r) (choice_of r) (rows_of r) t → (i : ℕ) → t i ≡ get_or (tried r) i 0
  final_tried f = any_order_lem (round_market r sound) f (tried_final sound)

  -- a state that turns lead to, and in which nobody may offer, is the last of the process
  pub ended_tried : {state : List ℕ} → Running r state → Ended r state → state ≡ tried r
  ended_tried {state} run ended =
      ext_get_or 0 state (tried r) (run.each ∙ sym (tried_running sound).each)
      (λ i l. final_tried (record {
        reached = run.reached;
        closed = record { fits = reached_fits run.reached; served = λ p m. not_offer sound run p m (ended p m) };
      }) i)

  module _ (order : List ℕ) (is : Order r order) where
    run : Running r (tried_in r order)
    run = order_running sound order (start_running r) is

    -- an order has as many offers as entries are tried
    order_length : length order ≡ list_sum (tried_in r order)
    order_length =
        omega (
          arith,
          state_sum run,
          order_sum sound order (start_running r) is,
          sum_of_zero (candidate_count r) (state_of (untried r)) (λ i l. get_or_zeros (candidate_count r) i),
        )

    same_end : Ended r (tried_in r order) → SameEnd r order
    unfolding offers_made seats
    same_end ended =
        let same : tried_in r order ≡ tried r = ended_tried run ended in
        record {
          same_offers = same;
          same_number = order_length ∙ ap list_sum same;
          same_seats = ap (seats_after r) same;
        }

    goes_on : (Ended r (tried_in r order) → ⊥) → (i : ℕ) × Order r (order ++ (i ∷ []))
    goes_on goes =
        let (i, next) = not_ended r (tried_in r order) goes in
        (i, one_more r (untried r) order i is next)

    order_holds : OrderHolds r order
    order_holds = record {
      bounded = omega (arith, order_length, state_most run);
      one_holder = one_institute sound run;
      goes_on = goes_on;
      ends_alike = same_end;
    }

  pub any_order_ends : AnyOrder r
  any_order_ends = record { lowest_first_is = lowest_tried r; each = order_holds }
