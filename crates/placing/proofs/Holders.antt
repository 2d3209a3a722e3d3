-- The way up the places to the next one at a type who has a type to try.
use Prim.Native.Nat.{ℕ, suc, ◌+◌, ◌≤◌, ◌<◌}
use mathlib.Core.Path.{◌≡◌, sym, ap, subst, ◌∙◌}
use mathlib.Core.Bool.{Bool, true, false, ◌&&◌}
use mathlib.Core.List.{List, [], ◌∷◌}
use denote.Ref.{Bor}
use denote.Param.Members.{Mut}
use Rattle.std.specs.declared.ops.Range.{Range}
use Rattle.std.specs.declared.iter.Rev.{Rev}
use Rattle.std.specs.Prelude.{Option, None, Some}
use Rattle.std.specs.Option.{MatchOption, IfSome}
use Rattle.std.specs.List.{FoldsTo}
use Rattle.std.specs.Fn.{CalledAt}
use Rattle.std.specs.Iterator.{Yields, YieldsThen}
use Rattle.std.specs.Iterator.Adapters.{rev_steps}
use Rattle.std.proofs.iter.runs.Sources.{nat_range_steps_back}
use native.Mathlib.Omega.{arith}
use lib.Dec.{eqb}
use lib.ListN.{get_or}
use borrow.Author.Tests.{eqb-true, eqb-false}
use Rattle.lists.proofs.Words.{and_fst, and_snd, and_no}
use Rattle.lists.specs.Numbers.{holds}
use Rattle.placing.specs.Search.{NothingToTry, SomeToTry, Sought}
use Rattle.lists.proofs.Counting.{less_or, same_or}

-- the test of a type that is tried
pub tried_test : (m t v : ℕ) {r : Bool} → r ≡ (holds m t && eqb v 0) → r ≡ true → (holds m t ≡ true) × (v ≡ 0)
tried_test m t v e y =
    (and_fst (holds m t) (eqb v 0) (sym e ∙ y), eqb-true v 0 (and_snd (holds m t) (eqb v 0) (sym e ∙ y)))

-- one more type is not among the marks, or visited
pub nothing_more : (m : ℕ) (visited : List ℕ) {t : ℕ} {r : Bool} → ((u : ℕ) → u < t → holds m u ≡ true → 0 < get_or visited u 0)
    → r ≡ (holds m t && eqb (get_or visited t 0) 0) → r ≡ false → (u : ℕ) → u < t + 1 → holds m u ≡ true → 0 < get_or visited u 0
nothing_more m visited {t} below test none u l held =
    same_or u t (λ e. rw e (seen (and_no (holds m t) (eqb (get_or visited t 0) 0) (sym test ∙ none) (rw e at held)))) (λ n. below u (omega arith) held)
  where
    seen : eqb (get_or visited t 0) 0 ≡ false → 0 < get_or visited t 0
    seen e = less_or 0 (get_or visited t 0) (λ l. l) (λ z. absurd (eqb-false (get_or visited t 0) 0 e (omega arith)))

-- `find` down a range: the last number that passes
module _ {F : Type 0} {g : Mut F (Bor ℕ × Unit {0}) Bool} (f : F) (Yes No : ℕ → Type 0) (hit : (x : ℕ) (q : F) → CalledAt g f x true q → Yes x)
    (miss : (x : ℕ) (q : F) → CalledAt g f x false q → (q ≡ f) × No x) where
  abbrev Last : ℕ → ℕ → Option ℕ → Type 0
  Last start end r =
      MatchOption r ((k : ℕ) → start ≤ k → k < end → No k) (λ i. (i < end) × Yes i × ((k : ℕ) → i < k → k < end → No k))

  extend : (start start' end end' n : ℕ) (r : Option ℕ) → start' ≡ start → end' ≡ end + 1 → n ≡ end → No n → Last start end r → Last start' end' r
  extend start start' end end' n None low high at other last = λ k l b. same_or k n (λ q. rw q other) (λ z. last k (omega arith) (omega arith))
  extend start start' end end' n (Some i) low high at other last =
      (omega (arith, last.0), last.1, λ k l b. same_or k n (λ q. rw q other) (λ z. last.2 k l (omega arith)))

  last_after : (xs : List ℕ) (s t u : Rev (Range ℕ)) (r : Option ℕ) (j : F) → Yields (rev_steps nat_range_steps_back) s xs t → rev_steps nat_range_steps_back t r u
      → FoldsTo (λ p x q. CalledAt g p x false q) f xs j → IfSome r (λ x. (h : F) × CalledAt g j x true h) → Last s.iter.start s.iter.end r
  last_after [] s t u None j y d e h = λ k low high. absurd (omega (arith, ap (λ (x : Rev (Range ℕ)). x.iter.start) y, ap (λ (x : Rev (Range ℕ)). x.iter.end) y, d.1.0))
  last_after [] s t u (Some x) j y d e h =
      let at : s.iter.end ≡ x + 1 = omega (arith, ap (λ (x : Rev (Range ℕ)). x.iter.end) y, d.1.1, d.1.2) in
      (omega arith, hit x h.0 (rw e h.1), λ k low high. absurd (omega arith))
  last_after (n ∷ ns) s t u r j y d e h =
      let (same, other) = miss n e.0 e.1 in
      extend y.0.iter.start s.iter.start y.0.iter.end s.iter.end n r (sym y.1.0) y.1.1.2 y.1.1.1 other
      (last_after ns y.0 t u r j y.2 d (subst (λ (z : F). FoldsTo (λ p x q. CalledAt g p x false q) z ns j) same e.2) h)

  pub last_found : (s u : Rev (Range ℕ)) (r : Option ℕ) (start end : ℕ) → s.iter ≡ record { start = start; end = end }
      → (xs : List ℕ) × (j : F) × YieldsThen (rev_steps nat_range_steps_back) s xs r u × FoldsTo (λ p x q. CalledAt g p x false q) f xs j × IfSome r (λ x. (h : F) × CalledAt g j x true h)
      → Last start end r
  last_found s u r start end e d = subst (λ (k : Range ℕ). Last k.start k.end r) e (last_after d.0 s d.2.0 u r d.1 d.2.1 d.2.2 d.3 d.4)

-- the next one going up, by the last that passes
pub sought_by : (marks placed visited : List ℕ) (t end : ℕ) (r : Option ℕ)
    → MatchOption r ((k : ℕ) → 0 ≤ k → k < end → get_or placed k 0 ≡ suc t → NothingToTry (get_or marks k 0) visited)
    (λ h. (h < end) × ((get_or placed h 0 ≡ suc t) × SomeToTry (get_or marks h 0) visited)
    × ((k : ℕ) → h < k → k < end → get_or placed k 0 ≡ suc t → NothingToTry (get_or marks k 0) visited)) → Sought marks placed visited t end r
sought_by marks placed visited t end None none = record { over = λ p l b. none p l b }
sought_by marks placed visited t end (Some h) last = record { within = last.0; holder = last.1.0; able = last.1.1; passed = record { over = λ p l b. last.2 p (omega arith) b } }
