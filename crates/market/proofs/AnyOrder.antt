-- Turns in any order end at the same state, after the same number of turns.
use mathlib.Core.Path.{◌≡◌, sym, ◌∙◌, ap}
use Prim.Native.Nat.{ℕ, suc}
use native.Mathlib.Omega.{arith}
use Rattle.lists.specs.Lists.{sum_of}
use Rattle.lists.proofs.Counting.{sum_of_zero}
use Rattle.market.proofs.Laws.{Contracts, Market}
use Rattle.market.proofs.Rows.{Rows, State}
use Rattle.market.proofs.Reached.{Reached, start, step, Final, turned_sum}
use Rattle.market.proofs.Least.{least}

unfoldable pub turns : {n : ℕ} {Ch : Contracts → Contracts} {rows : Rows} {t : State} → Reached n Ch rows t → ℕ
turns (start z) = 0
turns (step i r l f h s) = suc (turns r)

pub turns_sum : {n : ℕ} {Ch : Contracts → Contracts} {rows : Rows} {t : State} (r : Reached n Ch rows t) → turns r ≡ sum_of n t
unfolding turns
turns_sum {n} {t = t} (start z) = sym (sum_of_zero n t (λ i l. z i))
turns_sum {n} (step i r l f h s) = ap suc (turns_sum r) ∙ sym (turned_sum n l s)

module _ {n K : ℕ} {Ch : Contracts → Contracts} (M : Market n K Ch) {rows : Rows} {t u : State} where
  pub any_order_lem : Final n Ch rows t → Final n Ch rows u → (i : ℕ) → t i ≡ u i
  any_order_lem a b i = omega (arith, least M a.reached b.closed i, least M b.reached a.closed i)
