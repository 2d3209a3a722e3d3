-- What holds of the round of a file that is not refused (document 01, "The questions, in order": 5 to 12; document 02, Points 6 and 7).
use Rattle.std.specs.Prelude.{ℕ, ◌≤◌, ◌<◌, ◌^◌, ◌≡◌, ◌⊎◌, List, length, get_or}
use Rattle.round.specs.declared.entry.Category.{Category}
use Rattle.round.specs.declared.entry.Category.TheVariants.{Open}
use Rattle.round.specs.declared.entry.Entry.{Entry}
use Rattle.lists.specs.Lists.{list_sum, sum_of}
use Rattle.round.specs.Round.{Institute, Candidate, Round}
use Rattle.round.specs.Places.{no_entry, candidate_at, institute_at, step_at, step_numbers, merit_at}

-- the row of a candidate with a category, in a round with so many institutes
pub record SoundRow (institutes : ℕ) (own : Category) (row : List Entry) : Type 0 where
  pub row_short : length row ≤ 16
  -- each entry names an institute of the round, with the open category or the candidate's own
  pub entry_from : (k : ℕ) → k < length row → 1 ≤ (get_or row k no_entry).institute
  pub entry_to : (k : ℕ) → k < length row → (get_or row k no_entry).institute ≤ institutes
  pub entry_own : (k : ℕ) → k < length row → ((get_or row k no_entry).category ≡ Open) ⊎ ((get_or row k no_entry).category ≡ own)
  pub entries_differ : (k l : ℕ) → k < length row → l < length row → get_or row k no_entry ≡ get_or row l no_entry → k ≡ l

-- a candidate of a round with so many institutes and types
pub record SoundCandidate (institutes types : ℕ) (c : Candidate) : Type 0 where
  pub marks_held : c.marks < 2 ^ types
  pub row_sound : SoundRow institutes c.category c.row

-- an institute of a round with so many candidates and types
pub record SoundInstitute (candidates types : ℕ) (o : Institute) : Type 0 where
  pub positions_few : sum_of (length o.steps) (λ s. (step_at o s).own) ≤ 1024
  pub steps_most : length o.steps ≤ 12
  pub reserved_types : (s : ℕ) → s < length o.steps → length (step_at o s).reserved ≡ types
  pub reserved_within : (s : ℕ) → s < length o.steps → list_sum (step_at o s).reserved ≤ (step_at o s).own
  -- the merit list has different candidates of the round
  pub merit_from : (p : ℕ) → p < length o.merit → 1 ≤ merit_at o p
  pub merit_to : (p : ℕ) → p < length o.merit → merit_at o p ≤ candidates
  pub merit_differs : (p q : ℕ) → p < length o.merit → q < length o.merit → merit_at o p ≡ merit_at o q → p ≡ q

-- a round with so many types
pub record Sound (types : ℕ) (r : Round) : Type 0 where
  pub types_most : types ≤ 8
  pub candidates_least : 1 ≤ length r.candidates
  pub candidates_most : length r.candidates ≤ 512
  pub institutes_least : 1 ≤ length r.institutes
  -- the bound of a wide file; that of a narrow one is a question of the file
  pub institutes_most_is : length r.institutes ≤ 1000
  pub candidate : (i : ℕ) → i < length r.candidates → SoundCandidate (length r.institutes) types (candidate_at r i)
  pub institute : (j : ℕ) → j < length r.institutes → SoundInstitute (length r.candidates) types (institute_at r j)
  -- each of its steps has a number
  pub numbered : (j : ℕ) → j < length r.institutes → length (institute_at r j).steps ≤ step_numbers r j
