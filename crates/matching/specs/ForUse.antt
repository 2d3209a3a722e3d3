-- Taking for use, down the merit list (document 01, "One institute chooses": "Within a step, ..").
-- Applicants stand at places, from 0, in the order of the merit list; `considered` says which of them the step considers.
use Rattle.std.specs.Prelude.{ℕ, zero, suc, Bool, cond, ◌&&◌, List, [], ◌∷◌, ltb, get_or}
use Rattle.matching.specs.Use.{use_of}

-- one more candidate raises the use of those taken; a type without positions in the step raises nothing
unfoldable pub raises : List ℕ → List ℕ → ℕ → Bool
raises reserved before marks = ltb (use_of reserved before) (use_of reserved (marks ∷ before))

module _ (reserved marks : List ℕ) (considered : ℕ → Bool) where
  -- the marks of those whom going down the first p places takes, the latest first
  unfoldable pub taken_before : ℕ → List ℕ
  taken_before zero = []
  taken_before (suc p) =
      let before = taken_before p in
      cond (considered p && raises reserved before (get_or marks p 0)) (get_or marks p 0 ∷ before) before

  -- taken, going down the merit list, for raising the use of those taken
  unfoldable pub taken_for_use : ℕ → Bool
  taken_for_use p = considered p && raises reserved (taken_before p) (get_or marks p 0)
