-- A type that cannot be had: where a set of types is full, and whoever has one of them holds these only, nobody more can have one, whoever is
-- moved. The marks of one type alone.
use Prim.Native.Nat.{ℕ, zero, suc, ◌^◌, ◌≤◌, ◌<◌}
use mathlib.Core.Path.{◌≡◌, refl, ap, ◌∙◌}
use mathlib.Core.Bool.{Bool, true, false, cond}
use mathlib.Core.List.{List}
use native.Mathlib.Omega.{arith}
use lib.Dec.{eqb}
use lib.ListN.{length, get_or}
use borrow.Author.Tests.{eqb-true}
use Rattle.lists.specs.Lists.{bit, count_of, sum_of, all_of}
use Rattle.lists.proofs.Words.{all_at}
use Rattle.lists.specs.Numbers.{holds}
use Rattle.matching.specs.Use.{Placing}
use Rattle.placing.specs.Left.{at_type}
use Rattle.lists.proofs.Counting.{bit_same, bit_other, count_less, sum_of_zero, sum_of_ext, sum_of_le, sum_of_at}
use Rattle.matching.proofs.Tight.{cond_less, cond_zero, cond_le}

-- they have type t ..
pub has_own : (t : ℕ) → t < 8 → holds (2 ^ t) t ≡ true
unfolding holds
has_own t l = all_at 8 (λ t. holds (2 ^ t) t) refl t l

-- .. and no other
pub has_no_other : (t u : ℕ) → t < 8 → u < 8 → holds (2 ^ t) u ≡ true → u ≡ t
unfolding holds
has_no_other t u l m h =
    eqb-true u t
    (rw h at (all_at 8 (λ u. cond (holds (2 ^ t) u) (eqb u t) true) (all_at 8 (λ t. all_of 8 (λ u. cond (holds (2 ^ t) u) (eqb u t) true)) refl t l) u m))

-- a type, from 1, is one of the set, from 0
abbrev pub in_set : (ℕ → Bool) → ℕ → Bool
in_set T zero = false
in_set T (suc t) = T t

-- those who have types of the set, type by type
given_in : (L n : ℕ) (T : ℕ → Bool) (f : ℕ → ℕ) → ((i t : ℕ) → i < n → f i ≡ suc t → t < L)
    → sum_of L (λ t. cond (T t) (count_of n (λ i. eqb (f i) (suc t))) 0) ≡ count_of n (λ i. in_set T (f i))
given_in L zero T f h = sum_of_zero L (λ t. cond (T t) 0 0) (λ t l. cond_zero (T t))
given_in L (suc n) T f h = go (f n) refl (given_in L n T f (λ i t l e. h i t (omega arith) e))
  where
    given : ℕ → ℕ → ℕ
    given n t = cond (T t) (count_of n (λ i. eqb (f i) (suc t))) 0

    go : (x : ℕ) → f n ≡ x → sum_of L (given n) ≡ count_of n (λ i. in_set T (f i)) → sum_of L (given (suc n)) ≡ count_of (suc n) (λ i. in_set T (f i))
    go zero e rest =
        omega (
          arith,
          ap (λ x. bit (in_set T x)) e,
          sum_of_ext L (given (suc n)) (given n) (λ t l. ap {B = ℕ} (λ x. cond (T t) x 0) (omega (arith, bit_other (f n) (suc t) (omega arith)))),
        )
    go (suc u) e rest =
        omega (
          arith,
          ap (λ x. bit (in_set T x)) e,
          sum_of_at L u (bit (T u)) (given (suc n)) (given n) (h n u (omega arith) e)
              (λ t o. ap {B = ℕ} (λ x. cond (T t) x 0) (omega (arith, bit_other (f n) (suc t) (omega arith))))
              (cond_less (T u) _ _ (omega (arith, bit_same (f n) (suc u) e))),
        )

-- The types of T are full by placed, and who has one holds types of T only; p has none. Then p has no type of T in any placing that
-- gives a type to each who has one by placed.
pub blocked : (reserved marks placed others : List ℕ) (p : ℕ) (T : ℕ → Bool) → Placing reserved marks placed → Placing reserved marks others → p < length marks
    → ((t : ℕ) → T t ≡ true → get_or reserved t 0 ≤ at_type placed t)
    → ((q t u : ℕ) → T t ≡ true → get_or placed q 0 ≡ suc t → u < length reserved → holds (get_or marks q 0) u ≡ true → T u ≡ true)
    → ((q : ℕ) → 0 < get_or placed q 0 → 0 < get_or others q 0)
    → get_or placed p 0 ≡ 0 → (t : ℕ) → get_or others p 0 ≡ suc t → T t ≡ true → ⊥
blocked reserved marks placed others p T g h inside full closed kept none t at in-T =
    omega (
      arith,
      given_in (length reserved) (length marks) T (λ q. get_or placed q 0) (λ q u l e. (g.held q u l e).0),
      given_in (length reserved) (length marks) T (λ q. get_or others q 0) (λ q u l e. (h.held q u l e).0),
      sum_of_le (length reserved) (share others) (share placed) (λ u l. cond_le (T u) _ _ (no_more u l)),
      count_less (length marks) p (λ q. in_set T (get_or placed q 0)) (λ q. in_set T (get_or others q 0)) inside stays (ap (in_set T) none) (ap (in_set T) at ∙ in-T),
    )
  where
    share : List ℕ → ℕ → ℕ
    share types u = cond (T u) (count_of (length marks) (λ q. eqb (get_or types q 0) (suc u))) 0

    no_more : (u : ℕ) → u < length reserved → T u ≡ true → count_of (length marks) (λ q. eqb (get_or others q 0) (suc u)) ≤ count_of (length marks) (λ q. eqb (get_or placed q 0) (suc u))
    no_more u l i = omega (arith, rw h.each at (h.within u l), rw g.each at (full u i))

    from_type : (q x y : ℕ) → q < length marks → get_or placed q 0 ≡ x → get_or others q 0 ≡ y → in_set T x ≡ true → in_set T y ≡ true
    from_type q zero y l e d i = absurd (let z : ◌≡◌ {A = ℕ} 0 1 = cc in omega arith)
    from_type q (suc u) zero l e d i = absurd (omega (arith, kept q (omega arith)))
    from_type q (suc u) (suc v) l e d i = closed q u v i e (h.held q v l d).0 (h.held q v l d).1

    stays : (q : ℕ) → q < length marks → in_set T (get_or placed q 0) ≡ true → in_set T (get_or others q 0) ≡ true
    stays q l i = from_type q (get_or placed q 0) (get_or others q 0) l refl refl i
