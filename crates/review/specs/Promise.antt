-- The promise of the review (document 02, Points 5 to 7), for every input. That no call reads outside the file or the list, goes wrong or fails to
-- finish is part of what it is for a function to be proved; the file and the list are only read.
use Rattle.std.specs.Prelude.{◌≡◌, ℕ, List, Result, length}
use Rattle.reader.specs.declared.refusal.Refusal.{Refusal}
use Rattle.questions.specs.Reading.{round_of}
use Rattle.offers.specs.Process.{seats}
use Rattle.offers.specs.Stable.{Stable}
use Rattle.review.specs.declared.Judgement.{Judgement}
use Rattle.review.specs.Outcome.{outcome_of, outcome, list_for, work_after, Reviewed, Passing}

-- of a review of a list, with the lent work area: its answer, what stands in the area afterwards, and which lists pass; the last three fields speak
-- of the outcome, which by `answered` is what the review says
pub record Promise (file list work : List ℕ) (result : Result Judgement Refusal) (workNow : List ℕ) : Type 0 where
  pub answered : outcome_of result ≡ outcome file list (length work)
  pub work_area : workNow ≡ work_after file list work
  -- a list that passes is stable in the words of demand 3
  pub only_stable : Passing file list work → Stable (round_of file) (list_for file list)
  -- and of the lists that are not refused each stable one passes
  pub every_stable : Reviewed file list work → Stable (round_of file) (list_for file list) → Passing file list work
  -- the unit's own among them
  pub own_list : Reviewed file list work → list_for file list ≡ seats (round_of file) → Passing file list work
