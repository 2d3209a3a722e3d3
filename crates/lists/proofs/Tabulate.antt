-- The list of a function's first values depends on those values alone, and stays below their bound. A list of zeros.
use Prim.Native.Nat.{ℕ, zero, suc, ◌+◌, ◌<◌}
use mathlib.Core.Path.{◌≡◌, refl}
use native.Mathlib.Omega.{arith}
use lib.ListN.{get_or, replicate}
use Rattle.lists.specs.Lists.{tabulate_from, tabulate}

module _ {A : Type 0} where
  from_cong : (i n : ℕ) (f g : ℕ → A) → ((p : ℕ) → p < i + n → f p ≡ g p) → tabulate_from i n f ≡ tabulate_from i n g
  from_cong i zero f g h = refl
  from_cong i (suc n) f g h = rw (h i (omega arith), from_cong (suc i) n f g (λ p l. h p (omega arith)))

  pub tabulate_cong : (n : ℕ) (f g : ℕ → A) → ((p : ℕ) → p < n → f p ≡ g p) → tabulate n f ≡ tabulate n g
  tabulate_cong n f g h = from_cong 0 n f g (λ p l. h p (omega arith))

from_bound : (i n : ℕ) (f : ℕ → ℕ) (k : ℕ) → 0 < k → ((p : ℕ) → f p < k) → (p : ℕ) → get_or (tabulate_from i n f) p 0 < k
from_bound i zero f k pos h p = pos
from_bound i (suc n) f k pos h zero = h i
from_bound i (suc n) f k pos h (suc p) = from_bound (suc i) n f k pos h p

pub tabulate_bound : (n : ℕ) (f : ℕ → ℕ) (k : ℕ) → 0 < k → ((p : ℕ) → f p < k) → (p : ℕ) → get_or (tabulate n f) p 0 < k
tabulate_bound n f = from_bound 0 n f

pub get_or_zeros : (n p : ℕ) → ◌≡◌ {A = ℕ} (get_or (replicate n 0) p 0) 0
get_or_zeros zero p = refl
get_or_zeros (suc n) zero = refl
get_or_zeros (suc n) (suc p) = get_or_zeros n p
