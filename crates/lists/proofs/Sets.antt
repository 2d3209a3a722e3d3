-- Counting in sets of places, and what is left of a set.
use Prim.Native.Nat.{ℕ, zero, suc, ◌+◌, ◌-◌, ◌≤◌, ◌<◌, min}
use mathlib.Core.Path.{◌≡◌, refl}
use mathlib.Core.Bool.{Bool, true, false, not, ◌&&◌, ◌||◌, false≢true}
use native.Mathlib.Omega.{arith}
use lib.Dec.{ltb}
use borrow.Author.Tests.{ltb-true, ltb-false}
use Rattle.lists.specs.Lists.{bit, count_of}
use Rattle.lists.proofs.Counting.{clash, count_less}

pub left_if_out : (y l : Bool) → y ≡ true → (y && not l) ≡ false → l ≡ true
left_if_out y true e f = refl
left_if_out true false e f = clash refl f
left_if_out false false e f = e

pub out_if_left : (y l : Bool) → l ≡ true → (y && not l) ≡ false
out_if_left true true e = refl
out_if_left false true e = refl
out_if_left true false e = clash e refl
out_if_left false false e = refl

-- a set within another that has no more is that set
pub same_by_count : (n : ℕ) (X Y : ℕ → Bool) → ((p : ℕ) → p < n → X p ≡ true → Y p ≡ true) → count_of n Y ≤ count_of n X → (p : ℕ) → p < n → X p ≡ Y p
same_by_count n X Y h c p l = go (X p) (Y p) refl refl
  where
    go : (a b : Bool) → X p ≡ a → Y p ≡ b → X p ≡ Y p
    go true b e f = cc (h p l e)
    go false true e f = absurd (omega (arith, count_less n p X Y l h e f))
    go false false e f = cc

bit_split : (x h : Bool) → (h ≡ true → x ≡ true) → bit x ≡ bit h + bit (x && not h)
bit_split true true s = refl
bit_split true false s = refl
bit_split false true s = absurd (false≢true (s refl))
bit_split false false s = refl

-- a set is a part of it and the rest
pub count_split : (n : ℕ) (X H : ℕ → Bool) → ((p : ℕ) → p < n → H p ≡ true → X p ≡ true) → count_of n X ≡ count_of n H + count_of n (λ p. X p && not (H p))
count_split zero X H s = refl
count_split (suc n) X H s =
    omega (arith, bit_split (X n) (H n) (s n (omega arith)), count_split n X H (λ p l. s p (omega arith)))

bit_join : (x h t : Bool) → bit (h || (x && not h && t)) ≡ bit h + bit (x && not h && t)
bit_join true true t = refl
bit_join true false t = omega arith
bit_join false true t = refl
bit_join false false t = refl

pub count_join : (n : ℕ) (X H t : ℕ → Bool) → count_of n (λ p. H p || (X p && not (H p) && t p)) ≡ count_of n H + count_of n (λ p. X p && not (H p) && t p)
count_join zero X H t = refl
count_join (suc n) X H t = omega (arith, bit_join (X n) (H n) (t n), count_join n X H t)

-- of a set, those before whom a and the better ones of it are fewer than q
pub count_best : (n : ℕ) (R : ℕ → Bool) (a q : ℕ) → count_of n (λ p. R p && ltb (a + count_of p R) q) ≡ min (count_of n R) (q - a)
count_best zero R a q = omega arith
count_best (suc n) R a q = go (R n) (ltb (a + count_of n R) q) refl refl (count_best n R a q)
  where
    go : (b t : Bool) → R n ≡ b → ltb (a + count_of n R) q ≡ t → count_of n (λ p. R p && ltb (a + count_of p R) q) ≡ min (count_of n R) (q - a) → count_of (suc n) (λ p. R p && ltb (a + count_of p R) q) ≡ min (count_of (suc n) R) (q - a)
    go false t e f ih = rw e (omega arith)
    go true true e f ih = rw (e, f) (omega (arith, ltb-true))
    go true false e f ih = rw (e, f) (omega (arith, ltb-false))
