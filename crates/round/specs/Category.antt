-- The codes of the categories (document 01, "The unit": "Categories have codes").
use Rattle.std.specs.Prelude.{ℕ, cond, eqb}
use Rattle.round.specs.declared.entry.Category.{Category}
use Rattle.round.specs.declared.entry.Category.TheVariants.{Open, SC, ST, OBC, EWS}

-- 0 open, 1 SC, 2 ST, 3 OBC, 4 EWS
abbrev pub code_of : Category → ℕ
code_of Open = 0
code_of SC = 1
code_of ST = 2
code_of OBC = 3
code_of EWS = 4

-- the category of a code; open for a number that is no code, which no accepted file holds
abbrev pub category_of : ℕ → Category
category_of code = cond (eqb code 1) SC (cond (eqb code 2) ST (cond (eqb code 3) OBC (cond (eqb code 4) EWS Open)))
