-- The parts of a page that are read off an allotment's answer area.
use Rattle.std.specs.Prelude.{ℕ, ◌+◌, ◌*◌, Bool, List}
use Rattle.questions.specs.Form.{seat_width}
use Rattle.questions.specs.Records.{own_steps}
use Rattle.questions.specs.Read.{as_head}
use Rattle.allotment.specs.Areas.{closing_count, closing_width, type_standing}
use Rattle.offers.specs.Areas.{seat_in}
use Rattle.page.specs.declared.reads.Allotment.{Allotment}
use Rattle.page.specs.Page.{seat_line, places_line, closing_line}
use Rattle.page.specs.Reads.{place_in, seat_lines, closing_lines, page_in}

-- whether the institutes list their own steps
abbrev pub listed : Allotment → Bool
listed a = own_steps (as_head a.head)

-- the line of candidate i
abbrev pub seat_of : Allotment → ℕ → List ℕ
seat_of a i = seat_line (i + 1) (seat_in a.head.form a.answer.now i) (type_standing a.head.form (listed a) a.head.candidates a.head.institutes a.answer.now i)

-- a line for each candidate
abbrev pub seats_of : Allotment → List ℕ
seats_of a = seat_lines a.head.form (listed a) a.answer.now a.head.candidates a.head.institutes

-- the closing places of an institute, which stand from a byte on
abbrev pub places_of : Allotment → ℕ → List ℕ
places_of a from = places_line (closing_count (listed a)) (place_in a.answer.now from)

-- the line of institute j
abbrev pub closing_of : Allotment → ℕ → List ℕ
closing_of a j = closing_line (j + 1) (closing_count (listed a)) (place_in a.answer.now (seat_width a.head.form * a.head.candidates + closing_width (listed a) * j))

-- a line for each institute
abbrev pub closings_of : Allotment → List ℕ
closings_of a = closing_lines a.head.form (listed a) a.answer.now a.head.candidates a.head.institutes

-- the page, with the number of offers
abbrev pub page_of : Allotment → ℕ → List ℕ
page_of a offers = page_in a.head.form (listed a) offers a.head.candidates a.head.institutes a.answer.now
