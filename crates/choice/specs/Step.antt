-- One step of an institute's choice (document 01, "One institute chooses": "Within a step, ..").
-- Applicants stand at places, from 0, in the order of the merit list; `considered` says which of them the step considers.
use Rattle.std.specs.Prelude.{ℕ, ◌+◌, Bool, not, ◌&&◌, ◌||◌, List, length, ltb}
use Rattle.lists.specs.Lists.{count_of}
use Rattle.matching.specs.ForUse.{taken_for_use}

module _ (reserved marks : List ℕ) (considered : ℕ → Bool) where
  -- considered, and left over
  unfoldable pub remaining : ℕ → Bool
  remaining p = considered p && not (taken_for_use reserved marks considered p)

  -- taken to fill the remaining positions by merit: those taken for use and the better ones left over leave a position
  unfoldable pub taken_by_merit : ℕ → ℕ → Bool
  taken_by_merit positions p =
      remaining p && ltb (count_of (length marks) (taken_for_use reserved marks considered) + count_of p remaining) positions

  unfoldable pub taken : ℕ → ℕ → Bool
  taken positions p = taken_for_use reserved marks considered p || taken_by_merit positions p
