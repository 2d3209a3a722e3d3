-- What the program prints for an input, byte by byte (document 01, "Worked rounds"; document 02, Points 1, 3, 6 and 7).
use Rattle.std.specs.Prelude.{ℕ, ◌+◌, cond, List, ◌++◌, leb, length, get_or}
use Rattle.lists.specs.Lists.{tabulate, joined}
use Rattle.round.specs.Round.{Round}
use Rattle.questions.specs.Reading.{round_of}
use Rattle.questions.specs.Refusal.{Verdict, passes, refused, verdict}
use Rattle.offers.specs.Process.{Seat, no_seat, candidate_count, institute_count, offers_made, seats, types_used}
use Rattle.allotment.specs.Areas.{closing_count, closing_places}
use Rattle.text.specs.Ascii.{ascii}
use Rattle.text.specs.Decimal.{decimal, next_number, named}

-- the number of offers
abbrev pub offers_line : ℕ → List ℕ
offers_line offers = named (ascii "offers") offers ++ ascii "\n"

-- candidate, institute, step, type
abbrev pub seat_line : ℕ → Seat → ℕ → List ℕ
seat_line candidate s type = decimal candidate ++ next_number s.institute ++ next_number s.step ++ next_number type ++ ascii "\n"

-- so many closing places, each behind a space
unfoldable pub places_line : ℕ → (ℕ → ℕ) → List ℕ
places_line count place = joined (tabulate count (λ k. next_number (place k)))

-- an institute's number and its closing places
abbrev pub closing_line : ℕ → ℕ → (ℕ → ℕ) → List ℕ
closing_line institute count place = named (ascii "closing") institute ++ places_line count place ++ ascii "\n"

-- the one line of a refusal
abbrev pub refused_line : ℕ → ℕ → List ℕ
refused_line number offset = named (ascii "refused") number ++ named (ascii " at") offset ++ ascii "\n"

-- the page of a round's allotment: "First the offers; then candidate, institute, step; then for each institute its number and six closing
-- places"; "each candidate line gains the type as its last number"; "Each institute then has twelve closing places"
unfoldable pub page : Round → List ℕ
page r =
    let list : List Seat = seats r in
    let types : List ℕ = types_used r in
    offers_line (offers_made r)
    ++ joined (tabulate (candidate_count r) (λ i. seat_line (i + 1) (get_or list i no_seat) (get_or types i 0)))
    ++ joined (tabulate (institute_count r) (λ j. let places : List ℕ = closing_places r j in closing_line (j + 1) (closing_count r.steps_listed) (λ k. get_or places k 0)))

abbrev pub printed_by : Verdict → Round → List ℕ
printed_by passes r = page r
printed_by (refused number offset) r = refused_line number offset

-- what is printed for a file that the program reads
unfoldable pub printed_for : List ℕ → List ℕ
printed_for file = printed_by (verdict file) (round_of file)

-- what is printed for an input: the program alone refuses one above 65,536 bytes by 16 at 0, before question 1
unfoldable pub printed : List ℕ → List ℕ
printed input =
    let read = printed_for input in
    cond (leb (length input) 65536) read (refused_line 16 0)
