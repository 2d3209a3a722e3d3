-- The offers at the places: one byte for each, a set of categories, by the bits of their codes.
use Rattle.std.specs.Prelude.{ℕ, ◌≤◌, ◌≡◌, Bool, ◌&&◌, List, eqb, length, get_or}
use Rattle.round.specs.declared.entry.Category.{Category}
use Rattle.round.specs.Category.{code_of}
use Rattle.lists.specs.Numbers.{holds}

-- place p offers an entry of the category
abbrev pub offered_by : List ℕ → ℕ → Category → Bool
offered_by offers p category = holds (get_or offers p 0) (code_of category)

-- place p offers an entry of the code, and has no step yet
abbrev pub considers_by : List ℕ → List ℕ → ℕ → ℕ → Bool
considers_by offers given code p = holds (get_or offers p 0) code && eqb (get_or given p 0) 0

-- the marks, the offers, the steps and the types used of at most 512 places
pub record Places (marks offers steps used : List ℕ) : Type 0 where
  pub few : length marks ≤ 512
  pub offers_each : length offers ≡ length marks
  pub steps_each : length steps ≡ length marks
  pub used_each : length used ≡ length marks
