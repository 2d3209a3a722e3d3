-- A table of the numbers seen so far tells whether the next one was seen before (questions 10 and 12).
use Prim.Native.Nat.{ℕ, zero, suc, ◌+◌, ◌≤◌, ◌<◌}
use mathlib.Core.Path.{◌≡◌, refl, sym, ap, ◌∙◌}
use mathlib.Core.Bool.{Bool, true, false, not, ◌&&◌, ◌||◌}
use mathlib.Core.List.{List}
use native.Mathlib.Omega.{arith}
use native.Mathlib.Numerals.{add-one}
use borrow.Author.Tests.{eqb-true, eqb-false}
use lib.Dec.{eqb}
use lib.ListN.{length, get_or, replicate, set, length-set, length-replicate, get_or-replicate}
use lib.Seq.{get_or-set_same, get_or-set_other}
use Rattle.lists.specs.Numbers.{within}
use Rattle.questions.specs.Questions.{merit_count, merit_in}
use Rattle.lists.specs.Lists.{all_of, any_of, apart}
use Rattle.lists.proofs.Words.{all_at, all_no, was_yes}
use Rattle.questions.proofs.Answers.{within_to}

-- all are not, where not any is
all_not : (n : ℕ) (g : ℕ → Bool) → all_of n (λ k. not (g k)) ≡ not (any_of n g)
all_not zero g = refl
all_not (suc n) g = go (g n) (all_not n g)
  where
    go : (b : Bool) → all_of n (λ k. not (g k)) ≡ not (any_of n g) → not b && all_of n (λ k. not (g k)) ≡ not (b || any_of n g)
    go true e = refl
    go false e = e

-- the numbers of a list that names candidates only have a place in the table
pub listed_small : (candidates : ℕ) (body : List ℕ) {r : Bool} → r ≡ all_of (merit_count body) (λ p. within 1 candidates (merit_in body p)) → not r ≡ false → candidates ≤ 512
    → (p : ℕ) → p < merit_count body → merit_in body p < 513
listed_small candidates body e d few p l =
    omega (arith, within_to 1 candidates (merit_in body p) (all_at (merit_count body) (λ p. within 1 candidates (merit_in body p)) (was_yes e d) p l))

-- two numbers of f are the same
abbrev pub same : (ℕ → ℕ) → ℕ → ℕ → Bool
same f p q = eqb (f p) (f q)

-- the table says which numbers are among f 0, .., f (i - 1), and these are all different
pub record Seen (f : ℕ → ℕ) (i : ℕ) (table : List Bool) : Type 0 where
  pub room : length table ≡ 513
  pub told : (x : ℕ) → x < 513 → get_or table x false ≡ any_of i (λ p. eqb (f p) x)
  pub different : apart i (same f) ≡ true

pub seen_none : (f : ℕ → ℕ) → Seen f 0 (replicate 513 false)
seen_none f = record {
  room = length-replicate 513 false;
  told = λ x l. get_or-replicate 513 x false false l;
  different = refl;
}

module _ (f : ℕ → ℕ) (i : ℕ) (table : List Bool) (s : Seen f i table) (small : f i < 513) where
  -- the next number was seen
  seen_again : (n : ℕ) → i < n → get_or table (f i) false ≡ true → apart n (same f) ≡ false
  seen_again n l e =
      all_no n (λ j. all_of j (λ k. not (same f k j))) i l
      (all_not i (λ k. same f k i) ∙ ap not (sym (s.told (f i) small) ∙ e))

  fresh : get_or table (f i) false ≡ false → all_of i (λ k. not (same f k i)) ≡ true
  fresh e = all_not i (λ k. same f k i) ∙ ap not (sym (s.told (f i) small) ∙ e)

  marked : (x : ℕ) → x < 513 → get_or (set table (f i) true) x false ≡ eqb (f i) x || any_of i (λ p. eqb (f p) x)
  marked x l = go (eqb (f i) x) refl
    where
      go : (b : Bool) → eqb (f i) x ≡ b → get_or (set table (f i) true) x false ≡ b || any_of i (λ p. eqb (f p) x)
      go true q =
          ap (λ (y : ℕ). get_or (set table (f i) true) y false) (sym (eqb-true (f i) x q))
          ∙ get_or-set_same table (f i) true false (omega (arith, s.room))
      go false q = get_or-set_other table (f i) x true false (λ e. eqb-false (f i) x q (sym e)) ∙ s.told x l

  -- it was not, and is put down
  seen_more : get_or table (f i) false ≡ false → Seen f (i + 1) (set table (f i) true)
  seen_more n =
      rw add-one (record {
        room = length-set table (f i) true ∙ s.room;
        told = marked;
        different = rw (fresh n) s.different;
      })

-- the same, for a number that code has read, where all have a place in the table
module _ (f : ℕ → ℕ) (i n : ℕ) (table : List Bool) (s : Seen f i table) {v : ℕ} (here : v ≡ f i) (l : i < n) (small : (p : ℕ) → p < n → f p < 513) where
  -- `different` stands for the test, so that `search` takes f from the table
  pub read_again : {different : Bool} → get_or table v false ≡ true → apart n (same f) ≡ different → false ≡ different
  read_again e d = sym (seen_again f i table s (small i l) n l (rw here at e)) ∙ d

  pub read_more : get_or table v false ≡ false → Seen f (i + 1) (set table v true)
  read_more e = rw here (seen_more f i table s (small i l) (rw here at e))
