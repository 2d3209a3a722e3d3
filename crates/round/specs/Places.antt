-- What stands at a place of a round, from 0.
use Rattle.std.specs.Prelude.{ℕ, cond, [], length, get_or}
use Rattle.round.specs.declared.entry.Category.TheVariants.{Open}
use Rattle.round.specs.declared.entry.Entry.{Entry}
use Rattle.round.specs.Round.{StepRule, Institute, Candidate, Round}

-- what stands beyond the last place; the category of `no_step` counts: under policy 0 a seat at step 6 stands for the open entry, though no institute
-- has such a step
abbrev pub no_entry : Entry
no_entry = record { institute = 0; category = Open }

abbrev pub no_candidate : Candidate
no_candidate = record { category = Open; marks = 0; row = [] }

abbrev pub no_step : StepRule
no_step = record { category = Open; own = 0; reserved = []; receiver = 0 }

abbrev pub no_institute : Institute
no_institute = record { steps = []; merit = [] }

abbrev pub candidate_at : Round → ℕ → Candidate
candidate_at r i = get_or r.candidates i no_candidate

abbrev pub institute_at : Round → ℕ → Institute
institute_at r j = get_or r.institutes j no_institute

abbrev pub entry_at : Candidate → ℕ → Entry
entry_at c k = get_or c.row k no_entry

abbrev pub step_at : Institute → ℕ → StepRule
step_at o s = get_or o.steps s no_step

-- how many numbers, from 1, the steps of institute j have
abbrev pub step_numbers : Round → ℕ → ℕ
step_numbers r j = cond r.steps_listed (length (institute_at r j).steps) 6

-- the candidate number at a place of the merit list
abbrev pub merit_at : Institute → ℕ → ℕ
merit_at o p = get_or o.merit p 0
