-- The promise of the public call: demands 1, 2 and 3 of the letter, for every input, with the closing places of document 02, Point 1, that any
-- order of offers ends, with the offers, seats and steps of the list, its Point 2, and the types used, its Point 3, for files of both forms, its
-- Point 6, and of all three policies, its Point 7. That no call reads outside the file, goes wrong or fails to finish is part of what it is for a function to be proved.
use Rattle.std.specs.Prelude.{◌≡◌, ℕ, ◌≤◌, List, length}
use Rattle.questions.specs.Records.{form_of, head_of}
use Rattle.questions.specs.Reading.{round_of}
use Rattle.allotment.specs.declared.Answer.{Answer}
use Rattle.offers.specs.Process.{candidate_count}
use Rattle.offers.specs.Areas.{seats_in}
use Rattle.allotment.specs.Outcome.{outcome_of, outcome, answer_after, work_after, Accepted}
use Rattle.allotment.specs.Truthful.{Truthful}
use Rattle.allotment.specs.Types.{Published}
use Rattle.allotment.specs.Rewritten.{AlikeAsLists}
use Rattle.offers.specs.Ended.{AtEnd}
use Rattle.offers.specs.Orders.{AnyOrder}
use Rattle.offers.specs.Stable.{Stable}

-- of a call on a file with both lent areas: its answer, and what stands in the areas afterwards; `process` and `any_order` speak of the file's
-- round, whose number of offers and seats are those of the answer and the answer area
pub record Promise (file answer work : List ℕ) (result : Answer) (answerNow workNow : List ℕ) : Type 0 where
  pub answered : outcome_of result ≡ outcome file (length answer) (length work)
  pub answer_area : answerNow ≡ answer_after file answer work
  pub work_area : workNow ≡ work_after file answer work
  pub truthful : Accepted file answer work → Truthful file answerNow
  pub stable : Accepted file answer work → Stable (round_of file) (seats_in (form_of file) (candidate_count (round_of file)) answerNow)
  pub process : Accepted file answer work → AtEnd (round_of file)
  pub any_order : Accepted file answer work → AnyOrder (round_of file)
  pub types : Accepted file answer work → Published (form_of file) (round_of file) answerNow
  -- the steps of policies 0 and 1, written as lists, seat everyone alike
  pub as_lists : Accepted file answer work → (head_of file).policy ≤ 1 → AlikeAsLists file
