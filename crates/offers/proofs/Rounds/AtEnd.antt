-- The process of a sound round at its end: at most as many offers as entries, nobody who may offer, and nobody held twice.
use mathlib.Core.Path.{◌≡◌, refl}
use mathlib.Core.Bool.{Bool, true, false}
use mathlib.Core.Logic.{inl, inr}
use mathlib.Core.List.{List}
use Prim.Native.Nat.{ℕ}
use native.Mathlib.Omega.{arith}
use Rattle.round.specs.Round.{Round}
use Rattle.round.specs.Sound.{Sound}
use Rattle.lists.proofs.Counting.{clash}
use Rattle.offers.specs.Rows.{category_at}
use Rattle.offers.specs.Process.{seats_after, may_offer}
use Rattle.offers.specs.Ended.{Ended, OneHolder, AtEnd}
use Rattle.market.proofs.Reached.{Served}
use Rattle.offers.proofs.Rounds.Numbered.{number_of, rows_of, number_same}
use Rattle.offers.proofs.Rounds.Institutes.{choice_of}
use Rattle.offers.proofs.Rounds.Running.{state_of, Running, one_entry_held}
use Rattle.offers.proofs.Rounds.Seats.{step_in, step_held}
use Rattle.offers.proofs.Rounds.Process.{MayTurn, ClosedIn, may_offer_lem, tried_running, tried_final, offers_most}

-- whoever is served has no turn
served_out : {r : Round} {state : List ℕ} {i : ℕ} → Served (choice_of r) (rows_of r) (state_of state) i → MayTurn r state i → ⊥
served_out (inl (e, holds)) may = clash holds (may.none e)
served_out (inr full) may = omega (arith, may.more)

module _ {types : ℕ} {r : Round} (sound : Sound types r) {state : List ℕ} (run : Running r state) where
  -- nobody may offer in a closed state
  closed_ended : ClosedIn r state → Ended r state
  closed_ended closed i hi = go (may_offer r state (seats_after r state) i) refl
    where
      go : (b : Bool) → may_offer r state (seats_after r state) i ≡ b → b ≡ false
      go true e = absurd (served_out (closed.served i hi) (may_offer_lem sound run i hi e))
      go false e = refl

  pub one_institute : OneHolder r state
  one_institute i j k hi hj hk d e =
      let c = category_at r j (step_in r state j i) in
      let b = category_at r k (step_in r state k i) in
      (number_same j k c b
      (one_entry_held sound run i hi (number_of j c) (number_of k b) (step_held sound run i j hi hj d) (step_held sound run i k hi hk e))).0

pub at_end : {types : ℕ} {r : Round} → Sound types r → AtEnd r
at_end sound = record {
  bounded = offers_most sound;
  ended = closed_ended sound (tried_running sound) (tried_final sound).closed;
  one_holder = one_institute sound (tried_running sound);
}
