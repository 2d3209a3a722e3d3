-- What the market uses of sums and counts besides the choice's laws.
use mathlib.Core.Path.{◌≡◌, refl, ap}
use mathlib.Core.Bool.{Bool, true, false}
use Prim.Native.Nat.{ℕ, zero, suc, ◌≤◌, ◌<◌}
use native.Mathlib.Omega.{arith}
use Rattle.lists.specs.Lists.{bit, count_of, sum_of}
use Rattle.lists.proofs.Counting.{below, clash, false_unless, bit_true, bit_false, count_less, sum_of_le}

pub sum_of_lt : (k : ℕ) (f g : ℕ → ℕ) → ((i : ℕ) → i < k → f i ≤ g i) → (j : ℕ) → j < k → f j < g j → sum_of k f < sum_of k g
sum_of_lt zero f g h j l s = absurd (omega arith)
sum_of_lt (suc k) f g h j l s =
    let low : (i : ℕ) → i < k → f i ≤ g i = λ i m. h i (omega arith) in
    below j k l
    (λ less. omega (arith, sum_of_lt k f g low j less s, h k (omega arith)))
    (λ same. omega (arith, ap f same, ap g same, sum_of_le k f g low))

-- a count is a sum of bits
pub count_bits : (k : ℕ) (f : ℕ → Bool) → count_of k f ≡ sum_of k (λ i. bit (f i))
count_bits zero f = refl
count_bits (suc k) f = omega (arith, count_bits k f)

pub count_none : (k : ℕ) (f : ℕ → Bool) → ((i : ℕ) → i < k → f i ≡ false) → count_of k f ≡ 0
count_none zero f h = refl
count_none (suc k) f h = omega (arith, count_none k f (λ i l. h i (omega arith)), bit_false (f k) (h k (omega arith)))

pub count_some : (k : ℕ) (f : ℕ → Bool) (j : ℕ) → j < k → f j ≡ true → 1 ≤ count_of k f
count_some k f j l t = omega (arith, count_less k j (λ i. false) f l (λ p m e. clash e refl) refl t)

-- a test that no two numbers pass
pub count_one : (k : ℕ) (f : ℕ → Bool) → ((i j : ℕ) → f i ≡ true → f j ≡ true → i ≡ j) → count_of k f ≤ 1
count_one zero f h = omega arith
count_one (suc k) f h = go (f k) refl (count_one k f h)
  where
    go : (b : Bool) → f k ≡ b → count_of k f ≤ 1 → count_of (suc k) f ≤ 1
    go true t c = omega (arith, bit_true (f k) t, count_none k f (λ i l. false_unless (f i) (λ q. omega (arith, h i k q t))))
    go false t c = omega (arith, bit_false (f k) t)
