-- Laws of the steps in an institute's body: their width, and where no institute lists its own, their number and codes.
use Prim.Native.Nat.{ℕ, ◌≤◌}
use mathlib.Core.Path.{◌≡◌, sym, ◌∙◌}
use mathlib.Core.Bool.{Bool, true, false, cond}
use mathlib.Core.List.{List}
use native.Mathlib.Omega.{arith}
use Rattle.questions.specs.Records.{Head, own_steps}
use Rattle.questions.specs.Steps.{step_lead, step_width, step_count, step_code}

lead_most : (h : Head) → step_lead h ≤ 2
lead_most h = go (own_steps h)
  where
    go : (b : Bool) → cond b 2 0 ≤ 2
    go true = omega arith
    go false = omega arith

pub width_most : (h : Head) → h.types ≤ 8 → step_width h ≤ 20
width_most h few = omega (arith, lead_most h)

pub five_steps : (h : Head) (body : List ℕ) → own_steps h ≡ false → step_count h body ≡ 5
five_steps h body e = rw e

pub code_no : (h : Head) {r : Bool} → r ≡ own_steps h → (body : List ℕ) (k : ℕ) → r ≡ false → k ≡ step_code h body k
code_no h flag body k e = let n : own_steps h ≡ false = sym flag ∙ e in rw n
