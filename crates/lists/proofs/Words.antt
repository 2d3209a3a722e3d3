-- Laws of the words of specs/Lists.antt, and of tests.
use Prim.Native.Nat.{ℕ, zero, suc, ◌+◌, ◌-◌, ◌<◌, ◌≤◌}
use mathlib.Core.Path.{◌≡◌, refl, sym, ap, ◌∙◌}
use mathlib.Core.Bool.{Bool, true, false, not, ◌&&◌}
use mathlib.Core.Logic.{◌⊎◌, inl, inr, ⊎_elim}
use mathlib.Core.List.{List}
use native.Mathlib.Omega.{arith}
use native.Mathlib.Nat.{add-zero, add-suc, suc-add, zero-add}
use borrow.Author.Tests.{not-true, not-false}
use Rattle.lists.specs.Numbers.{within}
use lib.ListN.{length, get_or, take, drop, length-drop}
use lib.Seq.{take_all}
use Rattle.lists.specs.Lists.{tabulate, tabulate_from, list_sum, sum_of, all_of, apart}

-- true is not false
clash : {A : Type 0} → true ≡ false → A
clash {A} e = let z : ◌≡◌ {A = ℕ} 0 1 = cc in absurd (omega arith)

pub and_fst : (a b : Bool) → a && b ≡ true → a ≡ true
and_fst true b e = refl
and_fst false b e = e

pub and_snd : (a b : Bool) → a && b ≡ true → b ≡ true
and_snd true b e = e
and_snd false b e = clash (sym e)

pub and_no : (a b : Bool) → a && b ≡ false → a ≡ true → b ≡ false
and_no true b e h = e
and_no false b e h = clash (sym h)

-- what holds below a number and at it holds below the next
pub below_suc : (P : ℕ → Type 0) (n : ℕ) → ((k : ℕ) → k < n → P k) → P n → (k : ℕ) → k < suc n → P k
below_suc P n h here k l = go (lt_or_eq k n l)
  where
    lt_or_eq : (k n : ℕ) → k < suc n → (k < n) ⊎ (k ≡ n)
    lt_or_eq zero zero l = inr refl
    lt_or_eq zero (suc n) l = inl (omega arith)
    lt_or_eq (suc k) zero l = absurd (omega arith)
    lt_or_eq (suc k) (suc n) l = ⊎_elim (λ (h : k < n). inl (omega arith)) (λ (h : k ≡ n). inr (ap suc h)) (lt_or_eq k n (omega arith))

    go : (k < n) ⊎ (k ≡ n) → P k
    go (inl lt) = h k lt
    go (inr e) = rw e here

pub all_at : (n : ℕ) (f : ℕ → Bool) → all_of n f ≡ true → (k : ℕ) → k < n → f k ≡ true
all_at zero f e k l = absurd (omega arith)
all_at (suc n) f e k l = below_suc (λ k. f k ≡ true) n (all_at n f (and_snd (f n) (all_of n f) e)) (and_fst (f n) (all_of n f) e) k l

pub apart_at : (n : ℕ) (same : ℕ → ℕ → Bool) → apart n same ≡ true → (i j : ℕ) → i < j → j < n → same i j ≡ false
apart_at n same e i j l m = not-true (same i j) (all_at j (λ i. not (same i j)) (all_at n (λ j. all_of j (λ i. not (same i j))) e j m) i l)

pub length_tabulate : {A : Type 0} (s n : ℕ) (f : ℕ → A) → length (tabulate_from s n f) ≡ n
length_tabulate s zero f = refl
length_tabulate s (suc n) f = ap suc (length_tabulate (suc s) n f)

get_d_tabulate : {A : Type 0} (s n : ℕ) (f : ℕ → A) (d : A) (i : ℕ) → i < n → get_or (tabulate_from s n f) i d ≡ f (s + i)
get_d_tabulate s zero f d i l = absurd (omega arith)
get_d_tabulate s (suc n) f d zero l = ap f (sym (add-zero s))
get_d_tabulate s (suc n) f d (suc i) l =
    get_d_tabulate (suc s) n f d i (omega arith) ∙ ap f (suc-add s i ∙ sym (add-suc s i))

pub tabulate_at : {A : Type 0} (n : ℕ) (f : ℕ → A) (d : A) (i : ℕ) → i < n → get_or (tabulate n f) i d ≡ f i
tabulate_at n f d i l = get_d_tabulate 0 n f d i l ∙ ap f (zero-add i)

-- the same values give the same list
pub from_same : {A : Type 0} (i n : ℕ) (f g : ℕ → A) → ((p : ℕ) → p < i + n → f p ≡ g p) → tabulate_from i n f ≡ tabulate_from i n g
from_same i zero f g h = refl
from_same i (suc n) f g h = rw (h i (omega arith), from_same (suc i) n f g (λ p l. h p (omega arith)))

-- the sum of f s, .., n in all, with the first taken apart
pub sum_of_front : (n : ℕ) (f : ℕ → ℕ) → sum_of (suc n) f ≡ f 0 + sum_of n (λ i. f (suc i))
sum_of_front zero f = refl
sum_of_front (suc n) f = omega (arith, sum_of_front n f)

sum_tabulate_from : (s n : ℕ) (f : ℕ → ℕ) → list_sum (tabulate_from s n f) ≡ sum_of n (λ i. f (s + i))
sum_tabulate_from s zero f = refl
sum_tabulate_from s (suc n) f =
    ap (λ (x : ℕ). f s + x) (sum_tabulate_from (suc s) n f)
    ∙ simp suc-add (sym (simp (add-zero, add-suc) at (sum_of_front n (λ i. f (s + i)))))

pub sum_tabulate : (n : ℕ) (f : ℕ → ℕ) → list_sum (tabulate n f) ≡ sum_of n f
sum_tabulate n f = sum_tabulate_from 0 n f ∙ simp zero-add

-- tests of a number that code has read
pub within_no : (low high : ℕ) {x y : ℕ} {r : Bool} → x ≡ y → r ≡ within low high x → not r ≡ true → within low high y ≡ false
within_no low high {x} {y} {r} e f n = rw e at (sym f ∙ not-true r n)

pub within_yes : (low high : ℕ) {x y : ℕ} {r : Bool} → x ≡ y → r ≡ within low high x → not r ≡ false → within low high y ≡ true
within_yes low high {x} {y} {r} e f n = rw e at (sym f ∙ not-false r n)

-- one number that fails the test
pub all_no : (n : ℕ) (f : ℕ → Bool) (i : ℕ) → i < n → f i ≡ false → all_of n f ≡ false
all_no n f i l d = go (all_of n f) refl
  where
    go : (b : Bool) → all_of n f ≡ b → all_of n f ≡ false
    go true e = clash (sym (all_at n f e i l) ∙ d)
    go false e = e

-- the end of a loop that counts up
pub reached : {A : Type 0} (f : ℕ → A) {i n : ℕ} {x : A} → i ≤ n → n ≤ i → f i ≡ x → x ≡ f n
reached f {i} {n} {x} l m e = let q : i ≡ n = omega arith in sym (rw q at e)

-- a test by the flag that code has for it
pub was_yes : {b r : Bool} → r ≡ b → not r ≡ false → b ≡ true
was_yes {b} {r} e d = sym e ∙ not-false r d

-- two tests that are passed
pub both_yes : {a b : Bool} → a ≡ true → b ≡ true → a && b ≡ true
both_yes e d = rw e d

-- the part of a list behind its first two, as long as it is
pub rest_whole : (s : List ℕ) → take (length s - 2) (drop 2 s) ≡ drop 2 s
rest_whole s = take_all (length s - 2) (drop 2 s) (omega (arith, length-drop 2 s))
