-- How the types become smaller: a place gets the smallest type that it has in any placing of the same places, and keeps it.
use Rattle.std.specs.Prelude.{ℕ, suc, ◌-◌, ◌≤◌, ◌<◌, ◌≡◌, Bool, true, List, length, get_or, set, drop}
use Rattle.lists.specs.Lists.{count_of}
use Rattle.lists.specs.Numbers.{holds}
use Rattle.matching.specs.Use.{one_less, Placing}
use Rattle.placing.specs.Left.{at_type, Left}
use Rattle.matching.specs.ForUse.{taken_for_use}
use Rattle.matching.specs.FirstPlacing.{types_of, SameTyped}
use Rattle.matching.specs.Use.{typed_at}

-- the exhausted types are full, and who has one holds exhausted types only
pub record Sealed (room marks placed exhausted : List ℕ) : Type 0 where
  pub full : (t : ℕ) → 0 < get_or exhausted t 0 → get_or room t 0 ≤ at_type placed t
  pub closed : (q t u : ℕ) → 0 < get_or exhausted t 0 → get_or placed q 0 ≡ suc t → u < length room
      → holds (get_or marks q 0) u ≡ true → 0 < get_or exhausted u 0

-- type u is not exhausted, and the other types are as before or not exhausted either
pub record Reopened (before after : List ℕ) (u : ℕ) : Type 0 where
  pub freed : get_or after u 0 ≡ 0
  pub others : (t : ℕ) → 0 < get_or after t 0 → after ≡ before

-- the front place has a type, and may get a smaller one; what is exhausted is so without it
pub record Lowering (room left marks placed exhausted : List ℕ) : Type 0 where
  pub few : length room ≤ 8
  pub placing : Placing room marks placed
  pub positions : Left room left placed
  pub within : 0 < length marks
  pub some : 0 < get_or placed 0 0
  pub types : length exhausted ≡ 8
  pub sealed : Sealed room marks (set placed 0 0) exhausted

-- it has the smallest that any placing of the same places gives it; the marks of the others are as they were, and what is exhausted is so
-- without it
pub record Lowered (room left' marks marks' before after exhausted : List ℕ) : Type 0 where
  pub placing : Placing room marks after
  pub positions : Left room left' after
  pub same : SameTyped after before
  pub others : (q : ℕ) → 0 < q → get_or marks' q 0 ≡ get_or marks q 0
  pub sealed : Sealed room marks (set after 0 0) exhausted
  pub least : (others : List ℕ) → Placing room marks others → SameTyped others before → get_or after 0 0 ≤ get_or others 0 0

-- place p has a type, and may get a smaller one; room is what the places before p leave of the positions
pub record LoweringFrom (room left marks placed exhausted : List ℕ) (p : ℕ) : Type 0 where
  pub few : length room ≤ 8
  pub each : length placed ≡ length marks
  pub placing : Placing room (drop p marks) (drop p placed)
  pub positions : Left room left (drop p placed)
  pub within : p < length marks
  pub some : 0 < get_or placed p 0
  pub types : length exhausted ≡ 8
  pub sealed : Sealed room (drop p marks) (drop p placed) exhausted

-- the places before p are as they were, the others are lowered, and one position of p's type is gone from room
pub record LoweredFrom (room room' left' marks marks' before after exhausted : List ℕ) (p : ℕ) : Type 0 where
  pub above : (q : ℕ) → q < p → get_or after q 0 ≡ get_or before q 0
  pub lowered : Lowered room left' (drop p marks) (drop p marks') (drop p before) (drop p after) exhausted
  pub less : room' ≡ one_less room (get_or after p 0 - 1)

-- types at the same places, those of the first placing where it is asked for
pub record PlacedFirst (first : Bool) (reserved marks before after : List ℕ) : Type 0 where
  pub same : SameTyped after before
  pub types : first ≡ true → after ≡ types_of reserved marks (typed_at before)

-- just those taken for use are given a type, by the first placing of them where it is asked for, and r is their number
pub record TookTyped (first : Bool) (reserved marks placed : List ℕ) (considered : ℕ → Bool) (r : ℕ) : Type 0 where
  pub each : (p : ℕ) → p < length marks → taken_for_use reserved marks considered p ≡ typed_at placed p
  pub number : r ≡ count_of (length marks) (taken_for_use reserved marks considered)
  pub types : first ≡ true → placed ≡ types_of reserved marks (taken_for_use reserved marks considered)
