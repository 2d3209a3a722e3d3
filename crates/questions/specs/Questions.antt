-- The questions about one record (document 01, "The questions, in order": 1 to 12; document 02, Points 6 and 7). A kind is one of document 01's, 1 to
-- 4, in both forms and under each policy.
use Rattle.std.specs.Prelude.{ℕ, suc, ◌+◌, ◌*◌, ◌-◌, ◌/◌, ◌%◌, ◌^◌, Bool, cond, ◌&&◌, ◌||◌, List, [], ◌∷◌, ◌++◌, leb, eqb, length, get_or, drop}
use Rattle.questions.specs.declared.form.Form.{Form}
use Rattle.questions.specs.declared.form.Form.TheVariants.{Narrow, Wide}
use Rattle.questions.specs.Form.{institutes_most, entry_width}
use Rattle.lists.specs.Lists.{all_of, apart, sum_of}
use Rattle.questions.specs.Records.{Head, head_in, body_at, kind_at, length_at, own_steps, kind_due}
use Rattle.lists.specs.Numbers.{word}
use Rattle.questions.specs.Steps.{step_width, step_count, positions_in, reserved_in, step_code, receiver_in}
use Rattle.lists.specs.Numbers.{within}

-- a question: its number, and whether its answer is yes
pub record Question : Type 0 where
  pub number : ℕ
  pub answer : Bool

abbrev pub asked : ℕ → Bool → Question
asked n b = record { number = n; answer = b }

-- the number of the first question whose answer is no; 0 where all are yes
abbrev pub first_no : List Question → ℕ
first_no [] = 0
first_no (q ∷ qs) = cond q.answer (first_no qs) q.number

abbrev pub even : ℕ → Bool
even x = eqb (x % 2) 0

-- the body lengths of a candidate: two bytes and 0 to 16 entries
abbrev pub row_allowed : Form → ℕ → Bool
row_allowed form len = within 2 (2 + 16 * entry_width form) len && eqb ((len - 2) % entry_width form) 0

-- the body lengths of an institute: five positions with their reserved ones; under policy 2, 1 to 12 whole steps
abbrev pub institute_allowed : Head → ℕ → Bool
institute_allowed h len =
    cond (own_steps h) (within 1 12 (len / step_width h) && eqb (len % step_width h) 0) (eqb len (10 + 10 * h.types))

-- 3: the body lengths that the table allows for a kind
abbrev pub length_allowed : Head → ℕ → ℕ → Bool
length_allowed h kind len =
    cond (eqb kind 1) (eqb len 8)
    (cond (eqb kind 2) (institute_allowed h len)
    (cond (eqb kind 3) (row_allowed h.form len) (leb len (2 * h.candidates) && even len)))

-- 1 to 4: what is asked of every record, due with a kind at a byte
abbrev pub lead_questions : List ℕ → Head → ℕ → ℕ → List Question
lead_questions file h kind start =
    asked 1 (leb (start + 4) (length file))
    ∷ asked 2 (eqb (kind_at file start) (kind_due h kind))
    ∷ asked 3 (length_allowed h kind (length_at file start))
    ∷ asked 4 (leb (start + 4 + length_at file start) (length file))
    ∷ []

-- 5: all four numbers of the head are in range
abbrev pub head_questions : Form → List ℕ → List Question
head_questions form body =
    let h = head_in form body in
    asked 5 (within 1 512 h.candidates && (within 1 (institutes_most form) h.institutes && (leb h.types 8 && leb h.policy 2))) ∷ []

-- 17 and 18: each step's category is one of the five, and its vacancies go to nobody or to a later step of the list
abbrev pub list_questions : Head → List ℕ → List Question
list_questions h body =
    let steps : ℕ = step_count h body in
    let receiver : ℕ → ℕ = receiver_in h body in
    asked 17 (all_of steps (λ k. leb (step_code h body k) 4))
    ∷ asked 18 (all_of steps (λ k. eqb (receiver k) 0 || within (k + 2) steps (receiver k)))
    ∷ []

-- 6 and 7: the positions of all steps, and the reserved ones in each; then, of an institute that lists its own steps, 17 and 18
abbrev pub institute_questions : Head → List ℕ → List Question
institute_questions h body =
    let steps : ℕ = step_count h body in
    let positions : ℕ → ℕ = positions_in h body in
    let reserved : ℕ → ℕ → ℕ = reserved_in h body in
    let listed = list_questions h body in
    asked 6 (leb (sum_of steps positions) 1024)
    ∷ asked 7 (all_of steps (λ k. leb (sum_of h.types (reserved k)) (positions k)))
    ∷ cond (own_steps h) listed []

-- the number of entries in the bytes of a row; the institute number and the code of entry k, from 0
abbrev pub entry_count : Form → List ℕ → ℕ
entry_count form row = length row / entry_width form

abbrev pub institute_in : Form → List ℕ → ℕ → ℕ
institute_in Narrow row k = get_or row (2 * k) 0
institute_in Wide row k = word row (3 * k)

abbrev pub code_in : Form → List ℕ → ℕ → ℕ
code_in Narrow row k = get_or row (2 * k + 1) 0
code_in Wide row k = get_or row (3 * k + 2) 0

-- of a row by itself, in a round with so many institutes, by a candidate's own code: 9, each entry; 10, the entries are all different
abbrev pub row_questions : Form → ℕ → ℕ → List ℕ → List Question
row_questions form institutes own row =
    let entries : ℕ = entry_count form row in
    let institute : ℕ → ℕ = institute_in form row in
    let code : ℕ → ℕ = code_in form row in
    let lawful : ℕ → Bool = λ k. within 1 institutes (institute k) && (eqb (code k) 0 || eqb (code k) own) in
    let same : ℕ → ℕ → Bool = λ k l. eqb (institute k) (institute l) && eqb (code k) (code l) in
    asked 9 (all_of entries lawful)
    ∷ asked 10 (apart entries same)
    ∷ []

-- the bytes of the row in a candidate's body: those behind code and marks
abbrev pub row_bytes : List ℕ → List ℕ
row_bytes body = drop 2 body

-- 8: the code and the marks; then 9 and 10 of the row
abbrev pub candidate_questions : Head → List ℕ → List Question
candidate_questions h body =
    let own : ℕ = get_or body 0 0 in
    let marks : ℕ = get_or body 1 0 in
    asked 8 (leb own 4 && leb (suc marks) (2 ^ h.types)) ∷ row_questions h.form h.institutes own (row_bytes body)

-- the length of a merit list, by its body, and the candidate number at a place, from 0
abbrev pub merit_count : List ℕ → ℕ
merit_count body = length body / 2

abbrev pub merit_in : List ℕ → ℕ → ℕ
merit_in body p = word body (2 * p)

-- 11: each number is a candidate's; 12: they are all different
abbrev pub merit_questions : Head → List ℕ → List Question
merit_questions h body =
    asked 11 (all_of (merit_count body) (λ p. within 1 h.candidates (merit_in body p)))
    ∷ asked 12 (apart (merit_count body) (λ p q. eqb (merit_in body p) (merit_in body q)))
    ∷ []

-- the questions that go with a kind
abbrev pub kind_questions : Head → ℕ → List ℕ → List Question
kind_questions h kind body =
    cond (eqb kind 1) (head_questions h.form body)
    (cond (eqb kind 2) (institute_questions h body)
    (cond (eqb kind 3) (candidate_questions h body) (merit_questions h body)))

-- all questions about the record that is due with a kind at a byte, in order
unfoldable pub questions_at : List ℕ → Head → ℕ → ℕ → List Question
questions_at file h kind start = lead_questions file h kind start ++ kind_questions h kind (body_at file start)
