-- What a call answers and what it leaves in both areas (document 01, "The questions, in order" and "Offers"; document 02, Points 3, 6 and 7), for
-- every input.
use Rattle.std.specs.Prelude.{ℕ, ◌≡◌, ◌&&◌, List, Result, Ok, Err, leb, length}
use Rattle.questions.specs.Numbered.{number_of}
use Rattle.reader.specs.declared.refusal.Refusal.{Refusal}
use Rattle.questions.specs.declared.form.Form.{Form}
use Rattle.round.specs.Round.{Round}
use Rattle.questions.specs.Records.{form_of}
use Rattle.questions.specs.Reading.{round_of}
use Rattle.questions.specs.Refusal.{verdict}
use Rattle.reader.specs.Calls.{Outcome, said, refused, on_file, asks, area_by, work_size, work_by}
use Rattle.allotment.specs.declared.Answer.{Answer}
use Rattle.allotment.specs.declared.Answer.TheVariants.{Allotted, Refused}
use Rattle.offers.specs.Process.{offers_made}
use Rattle.allotment.specs.Areas.{answer_bytes, answer_size}

-- what the answer of the code says, case by case: "allotted" with the number of offers, or "refused"
abbrev pub outcome_of : Answer → Outcome ℕ
outcome_of (Allotted offers) = said offers
outcome_of (Refused number offset) = refused number offset

-- the answer that the result of the code stands for
abbrev pub answer_of : Result ℕ Refusal → Answer
answer_of (Ok offers) = Allotted offers
answer_of (Err f) = Refused (number_of f.question) f.offset

-- 14: both areas are large enough
abbrev pub outcome_on : Form → Round → ℕ → ℕ → Outcome ℕ
outcome_on form r answerLength workLength =
    let all_well = said (offers_made r) in
    asks 14 (leb (answer_size form r) answerLength && leb (work_size r) workLength) all_well

-- the outcome for a file and the lengths of both areas
unfoldable pub outcome : List ℕ → ℕ → ℕ → Outcome ℕ
outcome file answerLength workLength =
    let rest = outcome_on (form_of file) (round_of file) answerLength workLength in
    on_file (verdict file) rest

-- the answer area after a call
unfoldable pub answer_after : List ℕ → List ℕ → List ℕ → List ℕ
answer_after file answer work =
    let bytes = answer_bytes (form_of file) (round_of file) in
    area_by (outcome file (length answer) (length work)) bytes answer

-- the work area after a call: the first 8n bytes are 0 and the rest stay
unfoldable pub work_after : List ℕ → List ℕ → List ℕ → List ℕ
work_after file answer work = work_by (outcome file (length answer) (length work)) (round_of file) work

-- document 01's accepted: the call answers "allotted"
abbrev pub Accepted : List ℕ → List ℕ → List ℕ → Type 0
Accepted file answer work = (offers : ℕ) × (outcome file (length answer) (length work) ≡ said offers)

-- of a call on an opened round: its answer, and what stands in both areas afterwards
pub record Called (form : Form) (r : Round) (answer work : List ℕ) (result : Answer) (answerNow workNow : List ℕ) : Type 0 where
  pub answered : outcome_of result ≡ outcome_on form r (length answer) (length work)
  pub answer_area : answerNow ≡ area_by (outcome_of result) (answer_bytes form r) answer
  pub work_area : workNow ≡ work_by (outcome_of result) r work
