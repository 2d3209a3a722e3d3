-- Sums in another order, and through a numbering of the summands.
use mathlib.Core.Path.{◌≡◌, refl, sym, ◌∙◌, ap}
use mathlib.Core.Bool.{Bool, true, false, cond}
use mathlib.Core.Logic.{◌≢◌, ◌⊎◌, inl, inr}
use Prim.Native.Nat.{ℕ, zero, suc, ◌<◌}
use native.Mathlib.Omega.{arith}
use native.Mathlib.Decide.{ℕ_discrete}
use lib.Dec.{eqb}
use borrow.Author.Tests.{eq-eqb, ne_eqb}
use Rattle.lists.specs.Lists.{sum_of}
use Rattle.lists.proofs.Counting.{sum_of_ext, sum_of_zero, sum_of_add}

pub sum_swap : (a b : ℕ) (f : ℕ → ℕ → ℕ) → sum_of a (λ i. sum_of b (λ j. f i j)) ≡ sum_of b (λ j. sum_of a (λ i. f i j))
sum_swap zero b f = sym (sum_of_zero b (λ j. 0) (λ j l. refl))
sum_swap (suc a) b f = omega (arith, sum_swap a b f, sum_of_add b (f a) (λ j. sum_of a (λ i. f i j)))

-- a sum with one summand that counts
pub sum_only : (k : ℕ) (f : ℕ → ℕ) (j : ℕ) → j < k → ((i : ℕ) → i < k → i ≢ j → f i ≡ 0) → sum_of k f ≡ f j
sum_only zero f j l h = absurd (omega arith)
sum_only (suc k) f j l h =
    elim (ℕ_discrete j k) [
      | yes p ↦ omega (arith, ap f p, sum_of_zero k f (λ i m. h i (omega arith) (λ q. omega arith)))
      | no d ↦ omega (arith, sum_only k f j (omega arith) (λ i m q. h i (omega arith) q), h k (omega arith) (λ q. d (sym q)))
    ]

-- c numbers, without repetition, the summands that count, and r says the number of each
module _ (m n : ℕ) (c r : ℕ → ℕ) (inside : (p : ℕ) → p < m → c p < n) (back : (p : ℕ) → p < m → r (c p) ≡ p) (f : ℕ → ℕ)
    (all : (i : ℕ) → i < n → ((r i < m) × (c (r i) ≡ i)) ⊎ (f i ≡ 0)) where
  pub sum_through : sum_of n f ≡ sum_of m (λ p. f (c p))
  sum_through =
      sum_of_ext n f (λ i. sum_of m (λ p. weight p i)) (λ i l. sym (across i (all i l)))
      ∙ sum_swap n m (λ i p. weight p i)
      ∙ sum_of_ext m (λ p. sum_of n (λ i. weight p i)) (λ p. f (c p)) down
    where
      weight : ℕ → ℕ → ℕ
      weight p i = cond (eqb (c p) i) (f i) 0

      on : (p i : ℕ) → c p ≡ i → weight p i ≡ f i
      on p i q = ap (λ b. cond b (f i) 0) (eq-eqb (c p) i q)

      off : (p i : ℕ) → c p ≢ i → weight p i ≡ 0
      off p i q = ap (λ b. cond b (f i) 0) (ne_eqb (c p) i q)

      across : (i : ℕ) → ((r i < m) × (c (r i) ≡ i)) ⊎ (f i ≡ 0) → sum_of m (λ p. weight p i) ≡ f i
      across i (inl (l, q)) =
          sum_only m (λ p. weight p i) (r i) l (λ p k d. off p i (λ e. d (sym (back p k) ∙ ap r e))) ∙ on (r i) i q
      across i (inr z) = sum_of_zero m (λ p. weight p i) (λ p l. either p (eqb (c p) i) refl) ∙ sym z
        where
          either : (p : ℕ) (b : Bool) → eqb (c p) i ≡ b → weight p i ≡ 0
          either p true e = ap (λ b. cond b (f i) 0) e ∙ z
          either p false e = ap (λ b. cond b (f i) 0) e

      down : (p : ℕ) → p < m → sum_of n (λ i. weight p i) ≡ f (c p)
      down p l = sum_only n (λ i. weight p i) (c p) (inside p l) (λ i k d. off p i (λ e. d (sym e))) ∙ on p (c p) refl
