-- A round: what a file means that is not refused. It speaks of no byte of the file.
use Rattle.std.specs.Prelude.{ℕ, Bool, List}
use Rattle.round.specs.declared.entry.Category.{Category}
use Rattle.round.specs.declared.entry.Entry.{Entry}

-- one of the steps by which an institute fills its positions (document 01, "One institute chooses"; document 02, Point 7)
pub record StepRule : Type 0 where
  -- the category of the entries that the step considers
  pub category : Category
  -- the positions of its own
  pub own : ℕ
  -- those of them that are reserved for types 1 to L
  pub reserved : List ℕ
  -- the number of the later step that gets the positions left vacant, 0 for none
  pub receiver : ℕ

-- an institute; its steps have numbers from 1
pub record Institute : Type 0 where
  pub steps : List StepRule
  -- candidate numbers, best first
  pub merit : List ℕ

-- a candidate; type t, from 1, is held where bit t - 1 of the marks is set. The entries of the row carry their own category
pub record Candidate : Type 0 where
  pub category : Category
  pub marks : ℕ
  -- document 01's row: the entries, best first
  pub row : List Entry

-- candidates and institutes have numbers from 1, in file order
pub record Round : Type 0 where
  pub candidates : List Candidate
  pub institutes : List Institute
  -- each institute lists its own steps (document 02, Point 7); else the steps of every institute have document 01's numbers, 1 to 6
  pub steps_listed : Bool
