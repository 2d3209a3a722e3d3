-- Counts of the numbers below n that pass a test: one more number, tests that agree but at one number, fewer numbers.
use Prim.Native.Nat.{ℕ, zero, suc, ◌+◌, ◌≤◌, ◌<◌}
use mathlib.Core.Path.{◌≡◌, refl, ap}
use mathlib.Core.Bool.{Bool, true, false}
use native.Mathlib.Omega.{arith}
use native.Mathlib.Numerals.{add-one}
use lib.Dec.{eqb, ltb}
use Rattle.lists.specs.Lists.{bit, count_of}
use Rattle.lists.proofs.Counting.{below, bit_false, bit_max, bit_pass, count_ext}
use borrow.Author.Tests.{eqb-true, eqb-false, ltb-true, ltb-false}

-- one number more, tested
pub count_more : (X : ℕ → Bool) (p n b : ℕ) → n ≡ count_of p X → bit (X p) ≡ b → n + b ≡ count_of (p + 1) X
count_more X p n b e h = rw add-one (omega arith)

-- two tests that agree but at one number
pub count_one : (n c : ℕ) (X Y : ℕ → Bool) → c < n → ((p : ℕ) → (p ≡ c → ⊥) → X p ≡ Y p) → count_of n X + bit (Y c) ≡ count_of n Y + bit (X c)
count_one zero c X Y l h = absurd (omega arith)
count_one (suc n) c X Y l h =
    below c n l
    (λ less. omega (arith, count_one n c X Y less h, ap bit (h n (λ q. omega arith))))
    (λ same. rw same (omega (arith, count_ext n X Y (λ p b. h p (λ q. omega arith)))))

-- fewer numbers are tested
pub count_within : (k n : ℕ) (X : ℕ → Bool) → k ≤ n → count_of k X ≤ count_of n X
count_within k zero X h = let e : k ≡ 0 = omega arith in rw e (omega arith)
count_within k (suc n) X h = go (eqb k (suc n)) refl (count_within k n X)
  where
    go : (b : Bool) → eqb k (suc n) ≡ b → (k ≤ n → count_of k X ≤ count_of n X) → count_of k X ≤ count_of (suc n) X
    go true e _ = rw (eqb-true k (suc n) e) (omega arith)
    go false e rest = omega (arith, rest (omega (arith, eqb-false k (suc n) e)))

-- the numbers below p, and those from p on
pub count_from : (n p m : ℕ) (X : ℕ → Bool) → n ≡ p + m → count_of n X ≡ count_of p X + count_of m (λ i. X (p + i))
count_from n p zero X e = let same : n ≡ p = omega arith in omega (arith, ap (λ (k : ℕ). count_of k X) same)
count_from zero p (suc m) X e = absurd (omega arith)
count_from (suc n) p (suc m) X e =
    let last : n ≡ p + m = omega arith in
    omega (arith, count_from n p m X last, ap (λ (k : ℕ). bit (X k)) last)

-- the numbers from k on fail the test
pub count_rest : (k n : ℕ) (X : ℕ → Bool) → ((q : ℕ) → k ≤ q → X q ≡ false) → count_of n X ≤ count_of k X
count_rest k zero X h = omega arith
count_rest k (suc n) X h = go (ltb n k) refl (count_rest k n X h)
  where
    go : (b : Bool) → ltb n k ≡ b → count_of n X ≤ count_of k X → count_of (suc n) X ≤ count_of k X
    go true e _ = count_within (suc n) k X (omega (arith, ltb-true n k e))
    go false e rest = omega (arith, bit_false (X n) (h n (ltb-false n k e)))

pub count_most : (n : ℕ) (X : ℕ → Bool) → count_of n X ≤ n
count_most zero X = omega arith
count_most (suc n) X = omega (arith, bit_max (X n), count_most n X)

-- all of the numbers pass the test
pub count_full : (n : ℕ) (X : ℕ → Bool) → count_of n X ≡ n → (i : ℕ) → i < n → X i ≡ true
count_full zero X e i l = absurd (omega arith)
count_full (suc n) X e i l =
    below i n l
    (λ less. count_full n X (omega (arith, bit_max (X n), count_most n X)) i less)
    (λ same. rw same (bit_pass (X n) (omega (arith, count_most n X))))
