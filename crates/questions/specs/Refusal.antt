-- Whether a file is refused, by which number and at which byte (document 01, "The questions, in order": 1 to 13; document 02, Point 7: 17
-- and 18).
use Rattle.std.specs.Prelude.{ℕ, cond, List, [], ◌∷◌, eqb, length}
use Rattle.questions.specs.Records.{Head, head_of, due_after, next_at}
use Rattle.questions.specs.Questions.{questions_at, first_no}

-- what the questions come to: each was answered yes, or the number of the first that was not, with its byte
pub data Verdict : Type 0 where
  passes : Verdict
  refused : ℕ → ℕ → Verdict

-- 13: the file ends after the last record
abbrev pub ending : List ℕ → ℕ → Verdict
ending file start = cond (eqb start (length file)) passes (refused 13 start)

-- the questions of the record due with a kind at a byte; where each is answered yes, the verdict on the rest stands
abbrev pub judged : List ℕ → Head → ℕ → ℕ → Verdict → Verdict
judged file h kind start rest =
    let no = first_no (questions_at file h kind start) in
    cond (eqb no 0) rest (refused no start)

-- the verdict on the records of these kinds, due from a byte on
unfoldable pub verdict_from : List ℕ → Head → List ℕ → ℕ → Verdict
verdict_from file h [] start = ending file start
verdict_from file h (kind ∷ kinds) start =
    let rest = verdict_from file h kinds (next_at file start) in
    judged file h kind start rest

-- the verdict on a file: the head first, then the records that it makes due
unfoldable pub verdict : List ℕ → Verdict
verdict file =
    let rest = verdict_from file (head_of file) (due_after (head_of file)) (next_at file 0) in
    judged file (head_of file) 1 0 rest
