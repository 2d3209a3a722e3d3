-- A chain of iterators over the numbers of a range, in the words of specs/Lists.antt.
use Prim.Native.Nat.{ℕ, zero, suc, ◌+◌, ◌-◌, ◌/◌, ◌^◌, ◌≤◌, ◌<◌}
use mathlib.Core.Path.{◌≡◌, refl, sym, ap, ◌∙◌}
use mathlib.Core.Bool.{Bool, true, false, ◌&&◌}
use mathlib.Core.List.{List}
use native.Mathlib.Omega.{arith}
use native.Mathlib.Numerals.{add-one}
use native.Mathlib.Nat.{add-zero, add-suc, suc-add, zero-add}
use denote.Param.Members.{Mut}
use Rattle.std.specs.Bool.{⊤}
use Rattle.std.specs.Fn.{Called}
use Rattle.std.specs.Iterator.{YieldsThen, Drains}
use Rattle.std.specs.Iterator.Adapters.{map_steps}
use Rattle.std.specs.Iterator.Runs.{EachRunFrom}
use Rattle.std.specs.List.{FoldsTo, fold, list_all, range_with_len, sum_by}
use Rattle.std.specs.Option.{MatchOption}
use Rattle.std.specs.Prelude.{Option}
use Rattle.std.specs.declared.iter.Map.{Map}
use Rattle.std.specs.declared.ops.Range.{Range}
use Rattle.std.proofs.iter.Yields.{nat_range_steps}
use Rattle.std.proofs.lemmas.Iterator.{YieldsList-from_range, YieldsList-from_map}
use Rattle.std.proofs.lemmas.Iterator.Adapters.{fits_from_length, at_most_from_yields_List}
use Rattle.std.proofs.lemmas.Iterator.Consumers.{sum_by_from_yields_List}
use Rattle.std.proofs.lemmas.List.FromFn.{length-range_with_len}
use Rattle.std.proofs.lemmas.Iterator.Search.{all_from_yields_List}
use Rattle.std.proofs.lemmas.List.Sums.{sum_by-cons}
use Rattle.lists.specs.Lists.{all_of, sum_of}
use Rattle.lists.proofs.Words.{sum_of_front}

and_swap : (a b c : Bool) → a && (b && c) ≡ b && (a && c)
and_swap true true c = refl
and_swap true false c = refl
and_swap false true c = refl
and_swap false false c = refl

-- a test of the numbers below n, with 0 taken apart
all_of_front : (n : ℕ) (f : ℕ → Bool) → all_of (suc n) f ≡ f 0 && all_of n (λ i. f (suc i))
all_of_front zero f = refl
all_of_front (suc n) f = ap (λ b. f (suc n) && b) (all_of_front n f) ∙ and_swap (f (suc n)) (f 0) (all_of n (λ i. f (suc i)))

all_counted : (a n : ℕ) (f : ℕ → Bool) → list_all f (range_with_len a n) ≡ all_of n (λ k. f (a + k))
all_counted a zero f = refl
all_counted a (suc n) f =
    ap (λ b. f a && b) (all_counted (a + 1) n f)
    ∙ simp (add-one, suc-add) (sym (simp (add-zero, add-suc) at (all_of_front n (λ i. f (a + i)))))

sum_counted : (a n : ℕ) (f : ℕ → ℕ) → sum_by f (range_with_len a n) ≡ sum_of n (λ k. f (a + k))
sum_counted a zero f = refl
sum_counted a (suc n) f =
    sum_by-cons f a (range_with_len (a + 1) n)
    ∙ ap (λ (s : ℕ). f a + s) (sum_counted (a + 1) n f)
    ∙ simp (add-one, suc-add) (sym (simp (add-zero, add-suc) at (sum_of_front n (λ i. f (a + i)))))

-- `(0..m).all(f)`, where the closure computes the test, and n is what the definition calls m
module _ {F : Type 0} {g : Mut F (ℕ × Unit {0}) Bool} {u : Range ℕ} {f : F} {r : Bool} {m n : ℕ} (test : ℕ → Bool) where
  pub all_in_range : m ≡ n
      → (xs : List ℕ) × (o : Option ℕ) × (j : F) × YieldsThen nat_range_steps (record { start = 0; end = m }) xs o u × FoldsTo (λ p x q. Called g p (x, tt) true q) f xs j × MatchOption o (r ≡ true) (λ x. (r ≡ false) × ((h : F) × Called g j (x, tt) false h))
      → ((x : ℕ) (b : Bool) (q : F) → Called g f (x, tt) b q → (q ≡ f) × (b ≡ test x)) → r ≡ all_of n test
  all_in_range e ran step =
      all_from_yields_List test u f r ran (YieldsList-from_range 0 m m refl (omega arith)) step ∙ all_counted 0 m test ∙ rw e (simp zero-add)

-- `(0..m).map(f).sum()`, where the closure computes the terms, and m is at most n
module _ {F : Type 0} {g : Mut F (ℕ × Unit {0}) ℕ} {s : Map (Range ℕ) F} {f : F} {m : ℕ} (from : s.iter ≡ record { start = 0; end = m }) (callee : s.f ≡ f) where
  pub sum_in_range : {r n : ℕ} (term : ℕ → ℕ) → m ≡ n
      → (xs : List ℕ) × (⊤ → Drains (map_steps nat_range_steps g) s xs) × (r ≡ fold (λ a x. a + x) 0 xs)
      → ((x : ℕ) (v : ℕ) (q : F) → Called g f (x, tt) v q → (q ≡ f) × (v ≡ term x)) → r ≡ sum_of n term
  sum_in_range {r} term e ran step =
      sum_by_from_yields_List term (range_with_len 0 m) s r ran (YieldsList-from_map g term (YieldsList-from_range 0 m m from (omega arith)) callee step) ∙ sum_counted 0 m term ∙ rw e (simp zero-add)

  pub sum_fits : (n : ℕ) → m ≤ n
      → ((x : ℕ) (v : ℕ) (q : F) → Called g f (x, tt) v q → (q ≡ f) × (v ≤ (2 ^ 64 - 1) / n))
      → EachRunFrom (map_steps nat_range_steps g) s (λ p. fold (λ a x. a + x) 0 p.items < 2 ^ 64)
  sum_fits n l step =
      fits_from_length g f n (2 ^ 64) (at_most_from_yields_List (YieldsList-from_range 0 m m from (omega arith)) (omega (arith, length-range_with_len 0 m, l))) callee (omega arith) step
