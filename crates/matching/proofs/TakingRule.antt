-- A rule that takes some of the considered places, with the laws that filling by merit rests on.
use Prim.Native.Nat.{ℕ, ◌≤◌}
use mathlib.Core.Path.{◌≡◌}
use mathlib.Core.Bool.{Bool, true, false}
use Rattle.lists.specs.Lists.{count_of}

pub record TakingRule (n bound : ℕ) (H : (ℕ → Bool) → ℕ → Bool) : Type 0 where
  pub within : (X : ℕ → Bool) (p : ℕ) → H X p ≡ true → X p ≡ true
  pub stays : (X X' : ℕ → Bool) → ((p : ℕ) → X p ≡ true → X' p ≡ true) → (p : ℕ) → X p ≡ true → H X p ≡ false → H X' p ≡ false
  pub grows : (X X' : ℕ → Bool) → ((p : ℕ) → X p ≡ true → X' p ≡ true) → count_of n (H X) ≤ count_of n (H X')
  pub fits : (X : ℕ → Bool) → count_of n (H X) ≤ bound
