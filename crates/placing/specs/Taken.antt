-- What the way down the merit list leaves: types for those taken for use.
use Rattle.std.specs.Prelude.{ℕ, ◌<◌, ◌≡◌, Bool, true, false, List, ltb, length, get_or}
use Rattle.lists.specs.Lists.{count_of}
use Rattle.matching.specs.Use.{Placing}
use Rattle.matching.specs.ForUse.{taken_for_use}
use Rattle.placing.specs.Left.{Left, OneTaken}
use Rattle.placing.specs.Search.{Moved, Stuck}

-- only types without positions are exhausted
pub record Without (reserved exhausted : List ℕ) : Type 0 where
  pub types : length exhausted ≡ 8
  pub none : (t : ℕ) → 0 < get_or exhausted t 0 → get_or reserved t 0 ≡ 0

abbrev pub AllExhausted : ℕ → List ℕ → Type 0
AllExhausted types exhausted = (t : ℕ) → t < types → 0 < get_or exhausted t 0

-- c is placed, for which one position is taken where it had no type, and nothing more is exhausted; or nobody is placed, and what the search
-- visited is exhausted
pub record Attempted (reserved left left' marks exhausted exhausted' before after : List ℕ) (c : ℕ) (r : Bool) : Type 0 where
  pub positions : Left reserved left' after
  pub found : r ≡ true → Moved reserved marks exhausted before after c
  pub one : r ≡ true → get_or before c 0 ≡ 0 → OneTaken reserved left left'
  pub spared : r ≡ true → exhausted' ≡ exhausted
  pub stuck : r ≡ false → Stuck reserved marks exhausted exhausted' before after c

-- just those taken for use are given a type, by a placing, and r is their number; left is what they leave
pub record Took (reserved left marks placed : List ℕ) (considered : ℕ → Bool) (r : ℕ) : Type 0 where
  pub placing : Placing reserved marks placed
  pub positions : Left reserved left placed
  pub each : (p : ℕ) → p < length marks → taken_for_use reserved marks considered p ≡ ltb 0 (get_or placed p 0)
  pub number : r ≡ count_of (length marks) (taken_for_use reserved marks considered)
