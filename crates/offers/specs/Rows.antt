-- Rows of entries, and where an entry stands in a row (document 01, "The unit" and "The words of demand 3").
use Rattle.std.specs.Prelude.{ℕ, suc, ◌-◌, Bool, cond, ◌&&◌, List, [], ◌∷◌, eqb}
use Rattle.round.specs.declared.entry.Category.{Category}
use Rattle.round.specs.declared.entry.Entry.{Entry}
use Rattle.round.specs.Category.{code_of}
use Rattle.round.specs.Round.{Round}
use Rattle.round.specs.Places.{candidate_at, institute_at, step_at}

-- the row of candidate i, from 0
abbrev pub row_at : Round → ℕ → List Entry
row_at r i = (candidate_at r i).row

-- the entry of institute j, from 0, with a category
abbrev pub entry_of : ℕ → Category → Entry
entry_of j c = record { institute = suc j; category = c }

abbrev pub same_category : Category → Category → Bool
same_category c d = eqb (code_of c) (code_of d)

abbrev pub same_entry : Entry → Entry → Bool
same_entry e f = eqb e.institute f.institute && same_category e.category f.category

-- the place of an entry in a row, from 0; the row's length where the row has it not
unfoldable pub rank_in : List Entry → Entry → ℕ
rank_in [] e = 0
rank_in (x ∷ xs) e = let later = suc (rank_in xs e) in cond (same_entry x e) 0 later

-- the category of step k, from 1, of institute j; open for a step behind the last
abbrev pub category_at : Round → ℕ → ℕ → Category
category_at r j k = (step_at (institute_at r j) (k - 1)).category
