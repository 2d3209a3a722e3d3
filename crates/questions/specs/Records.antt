-- The records of a file (document 01, "Round file"; document 02, Points 6 and 7): where each starts, its body, the form of the file, the numbers of
-- the head and the kinds that they make due.
use Rattle.std.specs.Prelude.{ℕ, zero, suc, ◌+◌, Bool, cond, ◌&&◌, List, ◌++◌, leb, eqb, length, take, drop, replicate}
use Rattle.questions.specs.declared.form.Form.{Form}
use Rattle.questions.specs.declared.form.Form.TheVariants.{Narrow, Wide}
use Rattle.questions.specs.Form.{form_kind}
use Rattle.lists.specs.Numbers.{word}

-- the lead bytes of the record that starts at a byte: its body length and its kind
abbrev pub length_at : List ℕ → ℕ → ℕ
length_at file start = word file start

abbrev pub kind_at : List ℕ → ℕ → ℕ
kind_at file start = word file (start + 2)

-- the part of the file that starts behind the four lead bytes of the record that starts at a byte, as long as they say
abbrev pub body_at : List ℕ → ℕ → List ℕ
body_at file start = take (length_at file start) (drop (start + 4) file)

-- the first byte after the record that starts at a byte
abbrev pub next_at : List ℕ → ℕ → ℕ
next_at file start = start + 4 + length_at file start

-- the first byte of record k, from 0
unfoldable pub start_of : List ℕ → ℕ → ℕ
start_of file zero = 0
start_of file (suc k) = next_at file (start_of file k)

-- the body of record k, from 0
abbrev pub body_of : List ℕ → ℕ → List ℕ
body_of file k = body_at file (start_of file k)

-- the bytes of record k, from 0, its lead bytes included
abbrev pub record_of : List ℕ → ℕ → List ℕ
record_of file k = take (4 + length_at file (start_of file k)) (drop (start_of file k) file)

-- the form of a file: wide where the record that stands first has kind 5, else narrow; a file without four lead bytes is refused by 1, and one with
-- another kind than 1 and 5 by 2, in either form
unfoldable pub form_of : List ℕ → Form
form_of file = cond (leb 4 (length file)) (cond (eqb (kind_at file 0) 5) Wide Narrow) Narrow

-- the head: the form, candidates n, institutes m, horizontal types L, policy
pub record Head : Type 0 where
  pub form : Form
  pub candidates : ℕ
  pub institutes : ℕ
  pub types : ℕ
  pub policy : ℕ

abbrev pub head_in : Form → List ℕ → Head
head_in form body = record { form = form; candidates = word body 0; institutes = word body 2; types = word body 4; policy = word body 6 }

abbrev pub head_of : List ℕ → Head
head_of file = head_in (form_of file) (body_at file 0)

-- under policy 2 each institute lists its own steps
abbrev pub own_steps : Head → Bool
own_steps h = eqb h.policy 2

-- the kind that stands in the file for one of the kinds 1 to 4 of document 01: 7 for an institute's 2 where each institute lists its own steps, else
-- that of the form
abbrev pub kind_due : Head → ℕ → ℕ
kind_due h kind = cond (eqb kind 2 && own_steps h) 7 (form_kind h.form kind)

-- the kinds of the records that are due after the head, by document 01's numbers: m institutes, n candidates, m merit lists
abbrev pub due_after : Head → List ℕ
due_after h = replicate h.institutes 2 ++ (replicate h.candidates 3 ++ replicate h.institutes 4)

-- the number, from 0, of the record of an institute, a candidate and a merit list, each from 0
abbrev pub institute_record : Head → ℕ → ℕ
institute_record h j = 1 + j

abbrev pub candidate_record : Head → ℕ → ℕ
candidate_record h i = 1 + (h.institutes + i)

abbrev pub merit_record : Head → ℕ → ℕ
merit_record h j = 1 + (h.institutes + (h.candidates + j))

-- how many records stand behind a head, and how many a file with it has
abbrev pub behind_head : Head → ℕ
behind_head h = h.institutes + (h.candidates + h.institutes)

abbrev pub record_count : Head → ℕ
record_count h = 1 + behind_head h
