-- Two tests that imply each other are one, and a search for what is true below a bound.
use mathlib.Core.Path.{◌≡◌, refl, sym, ◌∙◌, ap}
use mathlib.Core.Bool.{Bool, true, false}
use mathlib.Core.Logic.{◌⊎◌, inl, inr}
use Prim.Native.Nat.{ℕ, zero, suc, ◌<◌}
use native.Mathlib.Omega.{arith}
use native.Mathlib.Decide.{ℕ_discrete}

-- two tests that imply each other are one
pub same_test : (a b : Bool) → (a ≡ true → b ≡ true) → (b ≡ true → a ≡ true) → a ≡ b
same_test true b f g = sym (f refl)
same_test false true f g = g refl
same_test false false f g = refl

-- some number passes the test, or none below k does
pub some_below : (k : ℕ) (f : ℕ → Bool) → ((e : ℕ) × (f e ≡ true)) ⊎ ((e : ℕ) → e < k → f e ≡ false)
some_below zero f = inr (λ e l. absurd (omega arith))
some_below (suc k) f = go (f k) refl (some_below k f)
  where
    go : (b : Bool) → f k ≡ b → ((e : ℕ) × (f e ≡ true)) ⊎ ((e : ℕ) → e < k → f e ≡ false)
        → ((e : ℕ) × (f e ≡ true)) ⊎ ((e : ℕ) → e < suc k → f e ≡ false)
    go true t r = inl (k, t)
    go false t (inl h) = inl h
    go false t (inr h) = inr (λ e l. elim (ℕ_discrete e k) [ yes p ↦ ap f p ∙ t | no d ↦ h e (omega arith) ])
