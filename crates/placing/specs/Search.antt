-- The search for a place (document 01, "One institute chooses": "seated candidates may be moved between types").
-- placed has at each place a type, from 1, or 0; visited has at each type, from 0, whether the search has been there, 0 for no.
use Rattle.std.specs.Prelude.{ℕ, suc, ◌+◌, ◌≤◌, ◌<◌, ◌≡◌, Bool, true, false, List, Option, None, Some, eqb, length, get_or}
use Rattle.lists.specs.Lists.{bit}
use Rattle.lists.specs.Numbers.{holds}
use Rattle.matching.specs.Use.{Placing}
use Rattle.placing.specs.Left.{at_type, Left}

-- the search has been at all types of these marks
abbrev pub NothingToTry : ℕ → List ℕ → Type 0
NothingToTry marks visited = (u : ℕ) → u < 8 → holds marks u ≡ true → 0 < get_or visited u 0

-- .. or one of them is still to try
abbrev pub SomeToTry : ℕ → List ℕ → Type 0
SomeToTry marks visited = (u : ℕ) × (u < 8) × (holds marks u ≡ true) × (get_or visited u 0 ≡ 0)

-- there is nothing to try for those from place h up to the end who are placed at type t
pub record PassedOver (marks placed visited : List ℕ) (t end h : ℕ) : Type 0 where
  pub over : (p : ℕ) → h ≤ p → p < end → get_or placed p 0 ≡ suc t → NothingToTry (get_or marks p 0) visited

-- the one at place h, before the end, is placed at type t and has something to try; those above who are placed there have nothing
pub record Next (marks placed visited : List ℕ) (t end h : ℕ) : Type 0 where
  pub within : h < end
  pub holder : get_or placed h 0 ≡ suc t
  pub able : SomeToTry (get_or marks h 0) visited
  pub passed : PassedOver marks placed visited t end (suc h)

-- the next one going up from the end, or nobody before the end
abbrev pub Sought : (marks placed visited : List ℕ) (t end : ℕ) → Option ℕ → Type 0
Sought marks placed visited t end None = PassedOver marks placed visited t end 0
Sought marks placed visited t end (Some h) = Next marks placed visited t end h

-- what a search for the one at place c starts from: c has no type, or a visited one
pub record Searching (reserved left marks placed visited : List ℕ) (c : ℕ) : Type 0 where
  pub few : length reserved ≤ 8
  pub types : length visited ≡ 8
  pub within : c < length marks
  pub placing : Placing reserved marks placed
  pub away : (t : ℕ) → get_or placed c 0 ≡ suc t → 0 < get_or visited t 0
  pub positions : Left reserved left placed

-- a chain of moves that starts at a type, from 1, 0 for none, ends at one type: one more is placed there, one fewer at the start, elsewhere
-- as many
pub record Ends (reserved before after : List ℕ) (from : ℕ) : Type 0 where
  pub last : ℕ
  pub below : last < length reserved
  pub counts : (t : ℕ) → at_type after t + bit (eqb from (suc t)) ≡ at_type before t + bit (eqb last t)

-- it ends with a placing of the same and c, by moves that end at one type; nobody but c who had no type, or a visited one, is moved, and
-- nobody comes to a visited type
pub record Moved (reserved marks visited before after : List ℕ) (c : ℕ) : Type 0 where
  pub placing : Placing reserved marks after
  pub reached : 0 < get_or after c 0
  pub ends : Ends reserved before after (get_or before c 0)
  pub kept : (p : ℕ) → 0 < get_or before p 0 → 0 < get_or after p 0
  pub apart : (p : ℕ) → (p ≡ c → ⊥) → get_or before p 0 ≡ 0 → get_or after p 0 ≡ 0
  pub stays : (p t : ℕ) → (p ≡ c → ⊥) → 0 < get_or visited t 0 → get_or before p 0 ≡ suc t → get_or after p 0 ≡ suc t
  pub comes : (p t : ℕ) → 0 < get_or visited t 0 → get_or after p 0 ≡ suc t → (get_or before p 0 ≡ suc t) × (p ≡ c → ⊥)

-- the types that this search visits: each is full, and who is placed at one holds visited types only, and so does c
pub record Stuck (reserved marks visited visited' before after : List ℕ) (c : ℕ) : Type 0 where
  pub same : after ≡ before
  pub more : (t : ℕ) → 0 < get_or visited t 0 → 0 < get_or visited' t 0
  pub full : (t : ℕ) → 0 < get_or visited' t 0 → get_or visited t 0 ≡ 0 → get_or reserved t 0 ≤ at_type before t
  pub closed : (p t u : ℕ) → 0 < get_or visited' t 0 → get_or visited t 0 ≡ 0 → get_or before p 0 ≡ suc t → u < length reserved
      → holds (get_or marks p 0) u ≡ true → 0 < get_or visited' u 0
  pub own : (u : ℕ) → u < length reserved → holds (get_or marks c 0) u ≡ true → 0 < get_or visited' u 0

-- how it ends, and what is left then
pub record Searched (reserved left' marks visited visited' before after : List ℕ) (c : ℕ) (r : Bool) : Type 0 where
  pub positions : Left reserved left' after
  pub found : r ≡ true → Moved reserved marks visited before after c
  pub stuck : r ≡ false → Stuck reserved marks visited visited' before after c
