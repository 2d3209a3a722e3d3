-- The largest place of a set, counted from 1.
use Prim.Native.Nat.{ℕ, zero, suc, ◌≤◌, ◌<◌}
use mathlib.Core.Path.{◌≡◌, refl}
use mathlib.Core.Bool.{Bool, true, false, cond}
use native.Mathlib.Omega.{arith}
use Rattle.lists.specs.Lists.{greatest_of}
use Rattle.lists.specs.Lists.{last_of}
use Rattle.lists.proofs.Counting.{greatest_below}

module _ (X : ℕ → Bool) where
  pub last_few : (n : ℕ) → last_of n X ≤ n
  last_few n = greatest_below n (λ p. cond (X p) (suc p) 0) n (λ p l. omega (arith, most p (X p)))
    where
      most : (p : ℕ) (b : Bool) → cond b (suc p) 0 ≤ suc p
      most p true = omega arith
      most p false = omega arith

  -- one place more
  pub last_in : (n : ℕ) → X n ≡ true → last_of (suc n) X ≡ suc n
  unfolding greatest_of
  last_in n x = rw x (omega (arith, last_few n))

  pub last_out : (n : ℕ) → X n ≡ false → last_of (suc n) X ≡ last_of n X
  unfolding greatest_of
  last_out n x = rw x (omega arith)

pub last_ext : (n : ℕ) (X Y : ℕ → Bool) → ((p : ℕ) → p < n → X p ≡ Y p) → last_of n X ≡ last_of n Y
unfolding greatest_of
last_ext zero X Y h = refl
last_ext (suc n) X Y h = rw (h n (omega arith), last_ext n X Y (λ p l. h p (omega arith)))
