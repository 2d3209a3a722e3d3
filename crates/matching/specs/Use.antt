-- The use of a set of candidates (document 01, "One institute chooses": "The use of a set of candidates is ..").
use Rattle.std.specs.Prelude.{ℕ, suc, ◌-◌, ◌≤◌, ◌<◌, max, ◌≡◌, Bool, true, cond, ◌&&◌, List, [], ◌∷◌, eqb, ltb, length, get_or, set}
use Rattle.lists.specs.Lists.{count_of, greatest_of}
use Rattle.lists.specs.Numbers.{holds}

-- the positions with one of type t gone
unfoldable pub one_less : List ℕ → ℕ → List ℕ
one_less reserved t = set reserved t (get_or reserved t 0 - 1)

-- document 01's use: the greatest number of these candidates, given by their marks, who can each be given a
-- reserved position of a type they hold, one position each. The first is left out, or gets a position of some type
unfoldable pub use_of : List ℕ → List ℕ → ℕ
use_of reserved [] = 0
use_of reserved (marks ∷ others) =
    max (use_of reserved others)
    (greatest_of (length reserved)
    (λ t.
    let one_more = suc (use_of (one_less reserved t) others) in
    cond (holds marks t && ltb 0 (get_or reserved t 0)) one_more 0))

-- to give each of these candidates a type, from 1, or none, 0: each gets a type that is held, and no type is given more
-- often than it has positions. By law, the use is the greatest number that a placing places
pub record Placing (reserved marks types : List ℕ) : Type 0 where
  pub each : length types ≡ length marks
  pub held : (i t : ℕ) → i < length marks → get_or types i 0 ≡ suc t → (t < length reserved) × (holds (get_or marks i 0) t ≡ true)
  pub within : (t : ℕ) → t < length reserved → count_of (length types) (λ i. eqb (get_or types i 0) (suc t)) ≤ get_or reserved t 0

-- how many get a type
unfoldable pub placed_in : List ℕ → ℕ
placed_in types = count_of (length types) (λ i. ltb 0 (get_or types i 0))

-- given a type
abbrev pub typed_at : List ℕ → ℕ → Bool
typed_at placed p = ltb 0 (get_or placed p 0)
