-- The search from 0 on for the first number that passes a test; the rank of an entry in a row is such a number.
use Prim.Native.Nat.{ℕ, zero, suc, ◌+◌, ◌≤◌, ◌<◌}
use mathlib.Core.Path.{◌≡◌, refl, sym, ◌∙◌, ap}
use mathlib.Core.Bool.{Bool, true, false, cond}
use mathlib.Core.List.{List, [], ◌∷◌}
use native.Mathlib.Omega.{arith}
use lib.ListN.{length, get_or}
use denote.Ref.{Bor}
use denote.Param.Members.{Mut}
use Rattle.std.specs.Bool.{⊤}
use Rattle.std.specs.Fn.{CalledAt}
use Rattle.std.specs.Iterator.{YieldsThen}
use Rattle.std.specs.List.{FoldsTo}
use Rattle.std.specs.Option.{MatchOption, unwrap_or}
use Rattle.std.specs.Prelude.{Option, Some, None}
use Rattle.std.specs.declared.ops.Range.{Range}
use Rattle.std.proofs.iter.Yields.{nat_range_steps}
use Rattle.std.proofs.lemmas.Iterator.{first_from_Range}
use Rattle.round.specs.declared.entry.Entry.{Entry}
use Rattle.lists.specs.Lists.{first_from, first_of}
use Rattle.round.specs.Places.{no_entry}
use Rattle.lists.proofs.Counting.{clash, same_or}
use Rattle.lists.proofs.FirstNumber.{first_least, first_passes, first_none}
use Rattle.offers.specs.Rows.{same_entry, rank_in}

-- two tests that are the same below n have the same first number
first_same : (s n : ℕ) (f g : ℕ → Bool) → ((i : ℕ) → i < s + n → f i ≡ g i) → first_from s n f ≡ first_from s n g
first_same s zero f g h = refl
first_same s (suc n) f g h = rw (h s (omega arith), first_same (suc s) n f g (λ i l. h i (omega arith)))

pub first_ext : (n : ℕ) (f g : ℕ → Bool) → ((i : ℕ) → i < n → f i ≡ g i) → first_of n f ≡ first_of n g
first_ext n f g h = first_same 0 n f g (λ i l. h i (omega arith))

-- none of the first k numbers passes the test
pub record PassedOver (f : ℕ → Bool) (k : ℕ) : Type 0 where
  pub fails : (p : ℕ) → p < k → f p ≡ false

pub none_passed : (f : ℕ → Bool) → PassedOver f 0
none_passed f = record { fails = λ p l. absurd (omega arith) }

module _ (f : ℕ → Bool) {k : ℕ} (over : PassedOver f k) where
  -- the next one fails too
  pub one_failed : {b : Bool} → b ≡ f k → b ≡ false → PassedOver f (k + 1)
  one_failed e d = record { fails = λ p l. same_or p k (λ same. rw same (sym e ∙ d)) (λ other. over.fails p (omega arith)) }

  -- the next one passes: it is the first
  pub found : {n : ℕ} {b : Bool} → k < n → b ≡ f k → b ≡ true → k ≡ first_of n f
  found {n} l e d =
      let least : first_of n f ≤ k = first_least n f k (sym e ∙ d) in
      let most : ¬ (first_of n f < k) = λ m. clash (first_passes n f (omega arith)) (over.fails (first_of n f) m) in
      omega arith

  -- there is no next one
  pub none_found : {n : ℕ} → n ≤ k → n ≡ first_of n f
  none_found {n} l = sym (first_none n f (λ p m. over.fails p (omega arith)))

-- the first number of those from 1 on
from_suc : (s n : ℕ) (f : ℕ → Bool) → first_from (suc s) n f ≡ suc (first_from s n (λ i. f (suc i)))
from_suc s zero f = refl
from_suc s (suc n) f = rw (from_suc (suc s) n f) (go (f (suc s)))
  where
    go : (b : Bool) → cond b (suc s) (suc (first_from (suc s) n (λ i. f (suc i)))) ≡ suc (cond b s (first_from (suc s) n (λ i. f (suc i))))
    go true = refl
    go false = refl

-- the rank of an entry is the first place in the row with that entry
pub rank_first : (row : List Entry) (e : Entry) → rank_in row e ≡ first_of (length row) (λ k. same_entry (get_or row k no_entry) e)
unfolding rank_in
rank_first [] e = refl
rank_first (x ∷ row) e =
    ap (cond (same_entry x e) 0) (ap suc (rank_first row e) ∙ sym (from_suc 0 (length row) (λ k. same_entry (get_or (x ∷ row) k no_entry) e)))

-- `(0..m).find(f)`, where the closure computes the test, and n is what the definition calls m
module _ {F : Type 0} {g : Mut F (Bor ℕ × Unit {0}) Bool} {m n : ℕ} (test : ℕ → Bool) (u : Range ℕ) (f : F) (r : Option ℕ) where
  -- it finds the first number that passes, or none where none below n does
  pub find_in_range : m ≡ n
      → (xs : List ℕ) × (j : F) × YieldsThen nat_range_steps (record { start = 0; end = m }) xs r u × FoldsTo (λ p x q. CalledAt g p x false q) f xs j × MatchOption r ⊤ (λ x. (h : F) × CalledAt g j x true h)
      → ((x : ℕ) (b : Bool) (q : F) → CalledAt g f x b q → (q ≡ f) × (b ≡ test x)) → MatchOption r (first_of n test ≡ n) (λ i. (i < n) × (i ≡ first_of n test))
  find_in_range e ran step =
      rw (sym e) (go r (first_from_Range _ u f r (λ x. test x ≡ true) (λ x. test x ≡ false) ran (λ x q k. sym (step x true q k).1) (λ x q k. ((step x false q k).0, sym (step x false q k).1))))
    where
      go : (r : Option ℕ)
          → MatchOption r ((k : ℕ) → 0 ≤ k → k < m → test k ≡ false) (λ i. (0 ≤ i) × (i < m) × (test i ≡ true) × ((k : ℕ) → 0 ≤ k → k < i → test k ≡ false))
          → MatchOption r (first_of m test ≡ m) (λ i. (i < m) × (i ≡ first_of m test))
      go None h = first_none m test (λ k l. h k (omega arith) l)
      go (Some i) h = (h.1, found test (record { fails = λ p l. h.3 p (omega arith) l }) h.1 refl h.2)

  pub find_or_end : m ≡ n
      → (xs : List ℕ) × (j : F) × YieldsThen nat_range_steps (record { start = 0; end = m }) xs r u × FoldsTo (λ p x q. CalledAt g p x false q) f xs j × MatchOption r ⊤ (λ x. (h : F) × CalledAt g j x true h)
      → ((x : ℕ) (b : Bool) (q : F) → CalledAt g f x b q → (q ≡ f) × (b ≡ test x)) → unwrap_or r m ≡ first_of n test
  find_or_end e ran step = go r (find_in_range e ran step)
    where
      go : (r : Option ℕ) → MatchOption r (first_of n test ≡ n) (λ i. (i < n) × (i ≡ first_of n test)) → unwrap_or r m ≡ first_of n test
      go None h = e ∙ sym h
      go (Some i) h = h.1
