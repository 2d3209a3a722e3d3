-- The opened round: that of an accepted file, or one that differs from it by a row or by a rise, read from the same file, unwritten.
use Rattle.std.proofs.Props.{props}
use Rattle.std.specs.Prelude.{ℕ, ◌*◌, ◌<◌, ◌≤◌, ◌≡◌, Bool, false, cond, List, eqb, length}
use Rattle.questions.specs.declared.head.Head.{Head as CodeHead}
use Rattle.questions.specs.declared.form.Form.{Form}
use Rattle.reader.specs.declared.change.Change.{Change}
use Rattle.reader.specs.declared.change.Change.TheVariants.{Nothing, Row, Rise}
use Rattle.round.specs.Category.{code_of}
use Rattle.questions.specs.Form.{entry_width}
use Rattle.round.specs.Round.{Round}
use Rattle.round.specs.Places.{candidate_at, institute_at}
use Rattle.questions.specs.Records.{form_of, head_of}
use Rattle.questions.specs.Questions.{first_no, row_questions}
use Rattle.questions.specs.Refusal.{passes, verdict}
use Rattle.questions.specs.Reading.{row_in, round_of}
use Rattle.round.specs.Changed.{with_row, stood_at, raised}
use Rattle.reader.specs.Outcome.{Starts}
use Rattle.questions.specs.Read.{as_head}

-- the round with a change; a new row stands in bytes of its own
abbrev pub changed : Change → Form → List ℕ → Round → Round
changed Nothing form row r = r
changed (Row candidate) form row r = with_row r candidate (row_in form row)
changed (Rise institute place by) form row r = raised r institute place by

-- the opened round, of a file, with the change and the new row
unfoldable pub opened_round : List ℕ → Change → List ℕ → Round
opened_round file change row = changed change (form_of file) row (round_of file)

-- the change is to candidate i's row
abbrev pub replaces : Change → ℕ → Bool
replaces Nothing i = false
replaces (Row candidate) i = eqb i candidate
replaces (Rise institute place by) i = false

-- where the one at place q of institute j's merit list stands in the file
abbrev pub stood : Change → ℕ → ℕ → ℕ
stood Nothing j q = q
stood (Row candidate) j q = q
stood (Rise institute place by) j q = cond (eqb j institute) (stood_at place by q) q

-- nobody is raised above the first place
abbrev pub Rises : Change → Type 0
Rises Nothing = 0 ≤ 0
Rises (Row candidate) = 0 ≤ 0
Rises (Rise institute place by) = by ≤ place

-- a new row for a candidate of the round: at most 16 entries, which pass questions 9 and 10
pub record LawfulRow (form : Form) (r : Round) (i : ℕ) (row : List ℕ) : Type 0 where
  pub candidate : i < length r.candidates
  pub short : length row ≤ 16 * entry_width form
  pub passing : first_no (row_questions form (length r.institutes) (code_of (candidate_at r i).category) row) ≡ 0

-- a rise on a merit list of the round
pub record LawfulRise (r : Round) (j place by : ℕ) : Type 0 where
  pub institute : j < length r.institutes
  pub listed : place < length (institute_at r j).merit
  pub rises : by ≤ place

-- the change is one that the round may have
abbrev pub LawfulChange : Change → Form → List ℕ → Round → Type 0
LawfulChange Nothing form row r = 0 ≤ 0
LawfulChange (Row candidate) form row r = LawfulRow form r candidate row
LawfulChange (Rise institute place by) form row r = LawfulRise r institute place by

-- the bytes and the table at hand are those of the round: an accepted file with its head, where its records start, and a lawful change
pub record OpenedFile (file : List ℕ) (h : CodeHead) (change : Change) (row starts : List ℕ) : Type 0 where
  pub accepted : verdict file ≡ passes
  pub head : as_head h ≡ head_of file
  pub table : Starts file starts
  pub lawful : LawfulChange change (form_of file) row (round_of file)

-- each of these facts has at most one proof
pub lawful_prop : (change : Change) (form : Form) (row : List ℕ) (r : Round) → IsProp (LawfulChange change form row r)
lawful_prop Nothing form row r = hlevel props
lawful_prop (Row candidate) form row r = hlevel props
lawful_prop (Rise institute place by) form row r = hlevel props

pub opened_prop : (file : List ℕ) (h : CodeHead) (change : Change) (row starts : List ℕ) → IsProp (OpenedFile file h change row starts)
opened_prop file h change row starts = hlevel (props, lawful_prop change (form_of file) row (round_of file))
