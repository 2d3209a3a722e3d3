-- The first placing of candidates who can all be placed (document 02, Point 3: "among all placings of those it took for raising the use, read
-- down the merit list, the one with the smallest type numbers, earlier candidates weighing more").
use Rattle.std.specs.Prelude.{ℕ, suc, ◌≤◌, ◌<◌, ◌≡◌, Bool, cond, ◌&&◌, List, [], ◌∷◌, eqb, ltb, length, get_or}
use Rattle.lists.specs.Lists.{tabulate, count_of, first_of}
use Rattle.lists.specs.Numbers.{holds}
use Rattle.matching.specs.Use.{one_less, use_of, Placing, placed_in}
use Rattle.lists.specs.Gathers.{gathered}

-- the first of these candidates can be given a position of type t, from 0, and the others all be placed when that position is gone
unfoldable pub suits : List ℕ → ℕ → List ℕ → ℕ → Bool
suits reserved marks others t =
    (holds marks t && ltb 0 (get_or reserved t 0)) && eqb (use_of (one_less reserved t) others) (length others)

-- a type, from 1, for each of these candidates, given by their marks: for the first the smallest that suits, then the rest; one more than the
-- number of types where none suits, which is so only where they cannot all be placed
unfoldable pub first_placing : List ℕ → List ℕ → List ℕ
first_placing reserved [] = []
first_placing reserved (marks ∷ others) =
    let t : ℕ = first_of (length reserved) (suits reserved marks others) in
    suc t ∷ first_placing (one_less reserved t) others

-- a placing that places all
pub record PlacesAll (reserved marks types : List ℕ) : Type 0 where
  pub placing : Placing reserved marks types
  pub everyone : placed_in types ≡ length marks

-- the types are no larger than others, the earlier ones weighing more: at the first place where they differ, if there is one, these are smaller
abbrev pub NoLarger : List ℕ → List ℕ → Type 0
NoLarger types others = (i : ℕ) → ((k : ℕ) → k < i → get_or types k 0 ≡ get_or others k 0) → get_or types i 0 ≤ get_or others i 0

-- the smallest among all placings that place all
pub record Smallest (reserved marks types : List ℕ) : Type 0 where
  pub all : PlacesAll reserved marks types
  pub smallest : (others : List ℕ) → PlacesAll reserved marks others → NoLarger types others

-- of each place its type by the first placing of those at the places of a set, who can all be placed, read down the places; 0 for the others
unfoldable pub types_of : List ℕ → List ℕ → (ℕ → Bool) → List ℕ
types_of reserved marks X =
    let types : List ℕ = first_placing reserved (gathered X (length marks) (λ p. get_or marks p 0)) in
    tabulate (length marks) (λ p. cond (X p) (get_or types (count_of p X) 0) 0)

-- two lists give types to the same places
abbrev pub SameTyped : List ℕ → List ℕ → Type 0
SameTyped types others = (p : ℕ) → ltb 0 (get_or types p 0) ≡ ltb 0 (get_or others p 0)
