-- A file under policy 0 or 1 with the steps of its institutes written as lists (document 02, Point 7: "Policies 0 and 1, written as such lists, ..").
use Rattle.std.specs.Prelude.{ℕ, ◌*◌, cond, List, [], ◌∷◌, ◌++◌, eqb, length, take, drop, replicate}
use Rattle.questions.specs.Form.{form_kind}
use Rattle.lists.specs.Lists.{tabulate, joined}
use Rattle.questions.specs.Records.{Head, head_of, body_of, start_of, institute_record, candidate_record}
use Rattle.questions.specs.Steps.{step_width, receiver_in}

-- a record with a body of fewer than 256 bytes
abbrev pub short_record : ℕ → List ℕ → List ℕ
short_record kind body = length body ∷ 0 ∷ kind ∷ 0 ∷ body

-- the head's body with policy 2
abbrev pub list_head : List ℕ → List ℕ
list_head body = take 6 body ++ (2 ∷ 0 ∷ [])

-- an institute's body as a list: the steps of codes 0 to 4, and under policy 1 step 6 behind them, for open entries and without positions of its own
unfoldable pub list_body : Head → List ℕ → List ℕ
list_body h body =
    joined (tabulate 5 (λ code. code ∷ receiver_in h body code ∷ take (step_width h) (drop (code * step_width h) body)))
    ++ cond (eqb h.policy 1) (0 ∷ 0 ∷ replicate (step_width h) 0) []

-- the file: its head and its institutes written anew, the records of its candidates and merit lists as they are
unfoldable pub as_lists : List ℕ → List ℕ
as_lists file =
    let h : Head = head_of file in
    short_record (form_kind h.form 1) (list_head (body_of file 0))
    ++ joined (tabulate h.institutes (λ j. short_record 7 (list_body h (body_of file (institute_record h j)))))
    ++ drop (start_of file (candidate_record h 0)) file
