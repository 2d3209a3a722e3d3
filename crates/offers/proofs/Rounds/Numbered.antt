-- Entries as numbers: institute j, from 0, with a category is 5 * j + code. So numbered, the rows of a sound round are ranked.
use mathlib.Core.Path.{◌≡◌, refl, sym, ◌∙◌, ap}
use mathlib.Core.Bool.{Bool, true, false, cond}
use mathlib.Core.List.{List, [], ◌∷◌}
use Prim.Native.Nat.{ℕ, zero, suc, ◌+◌, ◌*◌, ◌-◌, ◌/◌, ◌%◌, ◌≤◌, ◌<◌}
use native.Mathlib.Omega.{arith}
use lib.Dec.{eqb}
use lib.ListN.{length, get_or}
use borrow.Author.Tests.{eqb-true, eq-eqb}
use Rattle.round.specs.declared.entry.Category.{Category}
use Rattle.round.specs.declared.entry.Entry.{Entry}
use Rattle.round.specs.Category.{code_of, category_of}
use Rattle.round.specs.Round.{Candidate, Round}
use Rattle.round.specs.Places.{candidate_at, entry_at, no_entry}
use Rattle.round.specs.Sound.{SoundCandidate}
use Rattle.lists.proofs.Words.{and_fst, and_snd}
use Rattle.round.proofs.Codes.{code_category}
use Rattle.choice.proofs.Offers.{same_self, same_category_lem}
use Rattle.round.proofs.Codes.{category_code}
use Rattle.round.proofs.Codes.{code_small}
use Rattle.offers.specs.Rows.{row_at, rank_in, entry_of, same_entry}
use Rattle.market.proofs.Rows.{Row, Ranked, Rows}

abbrev pub number_of : ℕ → Category → ℕ
number_of j c = 5 * j + code_of c

-- the entry of a number
abbrev pub entry_with : ℕ → Entry
entry_with e = entry_of (e / 5) (category_of (e % 5))

pub number_institute : (j : ℕ) (c : Category) → number_of j c / 5 ≡ j
number_institute j c = omega (arith, code_small c)

pub number_category : (j : ℕ) (c : Category) → category_of (number_of j c % 5) ≡ c
number_category j c =
    let e : number_of j c % 5 ≡ code_of c = omega (arith, code_small c) in
    ap category_of e ∙ category_code c

pub number_same : (j k : ℕ) (c d : Category) → number_of j c ≡ number_of k d → (j ≡ k) × (c ≡ d)
number_same j k c d e = (
  sym (number_institute j c) ∙ ap (λ x. x / 5) e ∙ number_institute k d,
  sym (number_category j c) ∙ ap (λ x. category_of (x % 5)) e ∙ number_category k d,
)

pub number_back : (e : ℕ) → number_of (e / 5) (category_of (e % 5)) ≡ e
number_back e = omega (arith, code_category (e % 5) (omega arith))

number_entry : (j : ℕ) (c : Category) → entry_with (number_of j c) ≡ entry_of j c
number_entry j c = rw (number_institute j c, number_category j c)

pub same_is : (x y : Entry) → same_entry x y ≡ true → x ≡ y
same_is x y e =
    let p : x.institute ≡ y.institute = eqb-true x.institute y.institute (and_fst (eqb x.institute y.institute) _ e) in
    let q : x.category ≡ y.category = same_category_lem x.category y.category (and_snd (eqb x.institute y.institute) _ e) in
    λ i. record { institute = p i; category = q i }

pub same_refl : (x : Entry) → same_entry x x ≡ true
same_refl x = rw (eq-eqb x.institute x.institute refl) (same_self x.category)

-- where an entry stands in a row
pub rank_found : (row : List Entry) (x : Entry) → rank_in row x < length row → get_or row (rank_in row x) no_entry ≡ x
unfolding rank_in
rank_found [] x l = absurd (omega arith)
rank_found (y ∷ row) x l = go (same_entry y x) refl l (rank_found row x)
  where
    go : (b : Bool) → same_entry y x ≡ b → cond b 0 (suc (rank_in row x)) < suc (length row)
        → (rank_in row x < length row → get_or row (rank_in row x) no_entry ≡ x)
        → get_or (y ∷ row) (cond b 0 (suc (rank_in row x))) no_entry ≡ x
    go true e l h = same_is y x e
    go false e l h = h (omega arith)

rank_first : (row : List Entry) (p : ℕ) → p < length row → rank_in row (get_or row p no_entry) ≤ p
unfolding rank_in
rank_first [] p l = absurd (omega arith)
rank_first (y ∷ row) zero l = rw (same_refl y) (omega arith)
rank_first (y ∷ row) (suc p) l = go (same_entry y (get_or row p no_entry)) (rank_first row p (omega arith))
  where
    go : (b : Bool) → rank_in row (get_or row p no_entry) ≤ p → cond b 0 (suc (rank_in row (get_or row p no_entry))) ≤ suc p
    go true h = omega arith
    go false h = omega arith

-- a candidate's row in numbers
unfoldable pub row_by : Candidate → Row
row_by c = record {
  len = length c.row;
  entry = λ p. number_of ((entry_at c p).institute - 1) (entry_at c p).category;
  rank = λ e. rank_in c.row (entry_with e);
}

abbrev pub rows_of : Round → Rows
rows_of r i = row_by (candidate_at r i)

module _ (r : Round) where
  pub row_length : (i : ℕ) → (rows_of r i).len ≡ length (row_at r i)
  unfolding row_by
  row_length i = refl

  pub rows_rank : (i j : ℕ) (c : Category) → (rows_of r i).rank (number_of j c) ≡ rank_in (row_at r i) (entry_of j c)
  unfolding row_by
  rows_rank i j c = ap (λ (e : Entry). rank_in (row_at r i) e) (number_entry j c)

  -- a candidate's entry from its number
  rows_entry : {institutes types : ℕ} (i : ℕ) → SoundCandidate institutes types (candidate_at r i) → (p : ℕ) → p < length (row_at r i)
      → entry_with ((rows_of r i).entry p) ≡ entry_at (candidate_at r i) p
  unfolding row_by
  rows_entry i s p l =
      let x = entry_at (candidate_at r i) p in
      let q : suc (x.institute - 1) ≡ x.institute = omega (arith, s.row_sound.entry_from p l) in
      number_entry (x.institute - 1) x.category ∙ (λ k. record { institute = q k; category = x.category })

  -- the rank of an entry of a sound row is its place
  pub rank_place : {institutes types : ℕ} (i : ℕ) → SoundCandidate institutes types (candidate_at r i) → (p : ℕ) → p < length (row_at r i)
      → rank_in (row_at r i) (entry_at (candidate_at r i) p) ≡ p
  rank_place i s p l =
      let x = entry_at (candidate_at r i) p in
      let m : rank_in (row_at r i) x < length (row_at r i) = omega (arith, rank_first (row_at r i) p l) in
      s.row_sound.entries_differ (rank_in (row_at r i) x) p m l (rank_found (row_at r i) x m)

  pub rows_ranked : {institutes types : ℕ} (i : ℕ) → SoundCandidate institutes types (candidate_at r i) → Ranked (rows_of r i)
  unfolding row_by
  rows_ranked i s = record {
    rank_entry = λ p l. ap (λ (e : Entry). rank_in (row_at r i) e) (rows_entry i s p l) ∙ rank_place i s p l;
    entry_rank = λ e l.
        let q : entry_at (candidate_at r i) (rank_in (row_at r i) (entry_with e)) ≡ entry_with e = rank_found (row_at r i) (entry_with e) l in
        let z : suc (e / 5) - 1 ≡ e / 5 = omega arith in
        ap (λ (x : Entry). number_of (x.institute - 1) x.category) q ∙ ap (λ j. number_of j (category_of (e % 5))) z ∙ number_back e;
  }
