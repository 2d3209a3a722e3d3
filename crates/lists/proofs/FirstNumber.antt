-- The first number that passes a test.
use mathlib.Core.Path.{◌≡◌, refl}
use mathlib.Core.Bool.{Bool, true, false, cond}
use Prim.Native.Nat.{ℕ, zero, suc, ◌+◌, ◌≤◌, ◌<◌}
use native.Mathlib.Omega.{arith}
use Rattle.lists.specs.Lists.{first_from, first_of}
use Rattle.lists.proofs.Counting.{clash, same_or}

-- what is known of x, the first of n numbers from i on
record From (i n : ℕ) (f : ℕ → Bool) (x : ℕ) : Type 0 where
  low : i ≤ x
  high : x ≤ i + n
  passes : x < i + n → f x ≡ true
  before : (p : ℕ) → i ≤ p → p < x → f p ≡ false

from_first : (i n : ℕ) (f : ℕ → Bool) → From i n f (first_from i n f)
from_first i zero f = record { low = omega arith; high = omega arith; passes = λ l. absurd (omega arith); before = λ p l m. absurd (omega arith) }
from_first i (suc n) f = go (f i) refl (from_first (suc i) n f)
  where
    go : (b : Bool) → f i ≡ b → From (suc i) n f (first_from (suc i) n f) → From i (suc n) f (cond b i (first_from (suc i) n f))
    go true e h = record { low = omega arith; high = omega arith; passes = λ l. e; before = λ p l m. absurd (omega arith) }
    go false e h = record {
      low = omega (arith, h.low);
      high = omega (arith, h.high);
      passes = λ l. h.passes (omega arith);
      before = λ p l m. same_or p i (λ same. rw same e) (λ other. h.before p (omega arith) m);
    }

module _ (n : ℕ) (f : ℕ → Bool) where
  pub first_within : first_of n f ≤ n
  first_within = omega (arith, (from_first 0 n f).high)

  pub first_passes : first_of n f < n → f (first_of n f) ≡ true
  first_passes l = (from_first 0 n f).passes (omega arith)

  pub first_before : (p : ℕ) → p < first_of n f → f p ≡ false
  first_before p = (from_first 0 n f).before p (omega arith)

  pub first_least : (p : ℕ) → f p ≡ true → first_of n f ≤ p
  first_least p t =
      let no : ¬ (p < first_of n f) = λ l. clash t (first_before p l) in
      omega arith

  -- the only number that passes
  pub first_only : (p : ℕ) → p < n → f p ≡ true → ((q : ℕ) → q < n → f q ≡ true → q ≡ p) → first_of n f ≡ p
  first_only p l t only = only (first_of n f) (omega (arith, first_least p t)) (first_passes (omega (arith, first_least p t)))

  pub first_none : ((p : ℕ) → p < n → f p ≡ false) → first_of n f ≡ n
  first_none none =
      let no : ¬ (first_of n f < n) = λ l. clash (first_passes l) (none (first_of n f) l) in
      omega (arith, first_within)
