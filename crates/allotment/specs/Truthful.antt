-- The first half of demand 3, in the words of document 01 ("The words of demand 3").
use Rattle.std.specs.Prelude.{ℕ, ◌<◌, ◌≤◌, ◌≡◌, ◌≢◌, List, take}
use Rattle.questions.specs.Records.{form_of, head_of, record_of, body_of, candidate_record, record_count}
use Rattle.questions.specs.Reading.{round_of}
use Rattle.offers.specs.Standing.{standing}
use Rattle.offers.specs.Areas.{seat_in}
use Rattle.allotment.specs.Outcome.{Accepted, answer_after}

-- document 01's "alike in all but one row", that of candidate i: every other record is the same byte for byte, and so are the code and
-- marks bytes of that candidate's record; its length goes with its row. The head is one of the others, so both files have one form
pub record Alike (file other : List ℕ) (i : ℕ) : Type 0 where
  pub candidate : i < (head_of file).candidates
  pub records : (k : ℕ) → k < record_count (head_of file) → k ≢ candidate_record (head_of file) i → record_of file k ≡ record_of other k
  pub codeAndMarks :
      take 2 (body_of file (candidate_record (head_of file) i)) ≡ take 2 (body_of other (candidate_record (head_of file) i))

-- no other row would have served a candidate better than the list that stands in `now` after an accepted call on this file: judged by this
-- file's row, the seat there is at least as good as the one that stands in the answer area after any other accepted call, whatever its lent
-- areas hold, on a file alike in all but that row
unfoldable pub Truthful : List ℕ → List ℕ → Type 0
Truthful file now =
    (other answer work : List ℕ) → Accepted other answer work →
    (i : ℕ) → Alike file other i →
    standing (round_of file) i (seat_in (form_of file) now i) ≤ standing (round_of file) i (seat_in (form_of other) (answer_after other answer work) i)
