-- Laws of the two forms of a file, each by both.
use Prim.Native.Nat.{ℕ, ◌*◌, ◌≤◌}
use mathlib.Core.List.{List}
use native.Mathlib.Omega.{arith}
use lib.ListN.{length}
use Rattle.questions.specs.declared.form.Form.{Form}
use Rattle.questions.specs.declared.form.Form.TheVariants.{Narrow, Wide}
use Rattle.questions.specs.Form.{institutes_most, entry_width}
use Rattle.questions.specs.Questions.{entry_count}

-- no form has more than 1,000 institutes
pub institutes_few : (form : Form) → institutes_most form ≤ 1000
institutes_few Narrow = omega arith
institutes_few Wide = omega arith

-- a row of an allowed length has at most 16 entries
pub entries_few : (form : Form) (row : List ℕ) → length row ≤ 16 * entry_width form → entry_count form row ≤ 16
entries_few Narrow row l = omega arith
entries_few Wide row l = omega arith
