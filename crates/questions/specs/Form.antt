-- What the form of a file fixes (document 01, "Round file"; document 02, Point 6).
use Rattle.std.specs.Prelude.{ℕ, cond, eqb}
use Rattle.questions.specs.declared.form.Form.{Form}
use Rattle.questions.specs.declared.form.Form.TheVariants.{Narrow, Wide}

-- the most institutes
abbrev pub institutes_most : Form → ℕ
institutes_most Narrow = 32
institutes_most Wide = 1000

-- the kind that the form gives for one of the kinds 1 to 4 of document 01, whatever the policy: a wide file has 5 for the head's 1 and 6 for a
-- candidate's 3
abbrev pub form_kind : Form → ℕ → ℕ
form_kind Narrow kind = kind
form_kind Wide kind = cond (eqb kind 1) 5 (cond (eqb kind 3) 6 kind)

-- the bytes of an entry: institute and code, the institute in two bytes where the file is wide
abbrev pub entry_width : Form → ℕ
entry_width Narrow = 2
entry_width Wide = 3

-- the bytes of a seat: institute and step; where the file is wide two bytes of institute, the step and a zero byte
abbrev pub seat_width : Form → ℕ
seat_width Narrow = 2
seat_width Wide = 4
