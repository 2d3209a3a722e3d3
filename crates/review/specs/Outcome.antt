-- What a review answers and what it leaves in the work area (document 02, Points 5 to 7), for every input.
use Rattle.std.specs.Prelude.{Result, ℕ, ◌≡◌, List, eqb, leb, length}
use Rattle.questions.specs.declared.form.Form.{Form}
use Rattle.round.specs.Round.{Round}
use Rattle.questions.specs.Records.{form_of}
use Rattle.questions.specs.Reading.{round_of}
use Rattle.questions.specs.Refusal.{verdict}
use Rattle.reader.specs.Calls.{Outcome, said, told, on_file, asks, work_size, work_by}
use Rattle.offers.specs.Process.{Seat}
use Rattle.offers.specs.Listed.{list_of, list_size}
use Rattle.review.specs.declared.Judgement.{Judgement}
use Rattle.review.specs.declared.Judgement.TheVariants.{Passes, WrongSeat, BetterEntry}
use Rattle.reader.specs.declared.refusal.Refusal.{Refusal}
use Rattle.review.specs.Finding.{Finding, passes, wrong_seat, better_entry, finding}

-- what a judgement of the code finds, case by case
abbrev pub finding_of : Judgement → Finding
finding_of Passes = passes
finding_of (WrongSeat candidate) = wrong_seat candidate
finding_of (BetterEntry candidate entry) = better_entry candidate entry

-- what the answer of the code says: what was found, or "refused"
abbrev pub outcome_of : Result Judgement Refusal → Outcome Finding
outcome_of = told finding_of

-- 15: the list has a seat's bytes for each candidate; then 14: the work area is large enough
abbrev pub outcome_on : Form → Round → List ℕ → ℕ → Outcome Finding
outcome_on form r list workLength =
    let reviewed = said (finding r (list_of form r list)) in
    let roomy = asks 14 (leb (work_size r) workLength) reviewed in
    asks 15 (eqb (length list) (list_size form r)) roomy

-- the list under review for the round of a file
abbrev pub list_for : List ℕ → List ℕ → List Seat
list_for file list = list_of (form_of file) (round_of file) list

-- the outcome for a file, a list and the length of the work area
unfoldable pub outcome : List ℕ → List ℕ → ℕ → Outcome Finding
outcome file list workLength =
    let rest = outcome_on (form_of file) (round_of file) list workLength in
    on_file (verdict file) rest

-- the work area after a review: the first 8n bytes are 0 and the rest stay
unfoldable pub work_after : List ℕ → List ℕ → List ℕ → List ℕ
work_after file list work = work_by (outcome file list (length work)) (round_of file) work

-- the review is not refused
abbrev pub Reviewed : List ℕ → List ℕ → List ℕ → Type 0
Reviewed file list work = (what : Finding) × (outcome file list (length work) ≡ said what)

-- "passes"
abbrev pub Passing : List ℕ → List ℕ → List ℕ → Type 0
Passing file list work = outcome file list (length work) ≡ said passes

-- of a review for an opened round: its answer, and what stands in the work area afterwards
pub record Called (form : Form) (r : Round) (list work : List ℕ) (result : Result Judgement Refusal) (workNow : List ℕ) : Type 0 where
  pub answered : outcome_of result ≡ outcome_on form r list (length work)
  pub work_area : workNow ≡ work_by (outcome_of result) r work
