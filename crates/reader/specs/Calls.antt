-- What any call comes to, and what it leaves in the areas lent to it (document 01, "The questions, in order" and "Offers").
use Rattle.std.specs.Prelude.{ℕ, ◌*◌, Bool, cond, List, ◌++◌, length, drop, replicate, Result, Ok, Err}
use Rattle.questions.specs.Numbered.{number_of}
use Rattle.reader.specs.declared.refusal.Refusal.{Refusal}
use Rattle.round.specs.Round.{Round}
use Rattle.questions.specs.Refusal as verdicts
use Rattle.questions.specs.Refusal.{Verdict}

-- what the call says, or "refused" with a number and a byte offset
pub data Outcome (A : Type 0) : Type 0 where
  said : A → Outcome A
  refused : ℕ → ℕ → Outcome A

-- what the result of the code says, by what it says of a value
abbrev pub told : {A B : Type 0} → (A → B) → Result A Refusal → Outcome B
told says (Ok what) = said (says what)
told says (Err f) = refused (number_of f.question) f.offset

-- the questions about the file are put first; where each is answered yes, the rest stands
abbrev pub on_file : {A : Type 0} → Verdict → Outcome A → Outcome A
on_file verdicts.passes rest = rest
on_file (verdicts.refused number offset) rest = refused number offset

-- a question of the call's own: where its answer is no, its number at offset 0
abbrev pub asks : {A : Type 0} → ℕ → Bool → Outcome A → Outcome A
asks number answer rest = cond answer rest (refused number 0)

-- an area after a call: these bytes and the rest as it was, or, on a refusal, as it was
abbrev pub area_by : {A : Type 0} → Outcome A → List ℕ → List ℕ → List ℕ
area_by (said what) bytes area = bytes ++ drop (length bytes) area
area_by (refused number offset) bytes area = area

-- the bytes of the work area that question 14 asks for
abbrev pub work_size : Round → ℕ
work_size r = 8 * length r.candidates

-- the work area after a call: these bytes are 0 and the rest stay
abbrev pub work_by : {A : Type 0} → Outcome A → Round → List ℕ → List ℕ
work_by outcome r work = area_by outcome (replicate (work_size r) 0) work
