-- The closing places of a line, the seats and the closing lines of a page, one more at a time.
use Prim.Native.Nat.{ℕ, ◌+◌, ◌*◌, ◌<◌, ◌≤◌}
use mathlib.Core.Path.{◌≡◌, refl}
use mathlib.Core.Bool.{Bool}
use mathlib.Core.List.{List}
use native.Mathlib.Omega.{arith}
use lib.ListN.{length, get_or}
use Rattle.lists.specs.Lists.{tabulate, joined}
use Rattle.questions.specs.Form.{seat_width}
use Rattle.allotment.specs.Areas.{closing_count, closing_width, type_standing}
use Rattle.offers.specs.Areas.{seat_in}
use Rattle.allotment.proofs.Files.AreaSeats.{places_wide, closings_inside, size_parts}
use Rattle.text.specs.declared.Text.{Text}
use Rattle.text.specs.Decimal.{next_number}
use Rattle.text.specs.Put.{Fits, Put}
use Rattle.text.proofs.Putting.{fits_piece, put_all}
use Rattle.page.specs.declared.reads.Allotment.{Allotment}
use Rattle.page.specs.Page.{seat_line, places_line}
use Rattle.page.specs.Reads.{place_in, seat_lines, closing_lines}
use Rattle.page.specs.Parts.{listed, seat_of, seats_of, places_of, closing_of, closings_of}

module _ (a : Allotment) where
  -- closing place k, where those of its institute start at a byte
  abbrev pub place_of : ℕ → ℕ → List ℕ
  place_of from k = next_number (place_in a.answer.now from k)

  pub place_fits : (from k : ℕ) {page mid : Text} → Fits page (places_of a from) → k < closing_count (listed a)
      → Put page (joined (tabulate k (place_of from))) mid → Fits mid (place_of from k)
  unfolding places_line
  place_fits from k room l p = fits_piece (place_of from) (closing_count (listed a)) k l room p

  pub places_put : (from : ℕ) {page now : Text} {k : ℕ} → Put page (joined (tabulate k (place_of from))) now → k ≤ closing_count (listed a)
      → closing_count (listed a) ≤ k → Put page (places_of a from) now
  unfolding places_line
  places_put from p l m = put_all (place_of from) p l m

  -- the type of candidate i stands behind the closing places
  pub type_here : (i : ℕ) {kind closings width : ℕ} {own : Bool} → own ≡ listed a → closings ≡ seat_width a.head.form * a.head.candidates
      → width ≡ closing_width own → kind ≡ get_or a.answer.now (closings + width * a.head.institutes + i) 0
      → kind ≡ type_standing a.head.form (listed a) a.head.candidates a.head.institutes a.answer.now i
  type_here i o c w k = rw (c, w, o) at k

  pub seat_put : (i : ℕ) {institute step type : ℕ} → institute ≡ (seat_in a.head.form a.answer.now i).institute → step ≡ (seat_in a.head.form a.answer.now i).step
      → type ≡ type_standing a.head.form (listed a) a.head.candidates a.head.institutes a.answer.now i
      → {page now : Text} → Put page (seat_line (i + 1) (record { institute = institute; step = step }) type) now → Put page (seat_of a i) now
  seat_put i first second third p = rw (first, second, third) at p

  pub seat_fits : (i : ℕ) {page mid : Text} → Fits page (seats_of a) → i < a.head.candidates → Put page (joined (tabulate i (seat_of a))) mid → Fits mid (seat_of a i)
  unfolding seat_lines
  seat_fits i room l p = fits_piece (seat_of a) a.head.candidates i l room p

  pub seats_put : {page now : Text} {i : ℕ} → Put page (joined (tabulate i (seat_of a))) now → i ≤ a.head.candidates → a.head.candidates ≤ i → Put page (seats_of a) now
  unfolding seat_lines
  seats_put p l m = put_all (seat_of a) p l m

  pub closing_fits : (j : ℕ) {page mid : Text} → Fits page (closings_of a) → j < a.head.institutes → Put page (joined (tabulate j (closing_of a))) mid → Fits mid (closing_of a j)
  unfolding closing_lines
  closing_fits j room l p = fits_piece (closing_of a) a.head.institutes j l room p

  pub closings_put : {page now : Text} {j : ℕ} → Put page (joined (tabulate j (closing_of a))) now → j ≤ a.head.institutes → a.head.institutes ≤ j → Put page (closings_of a) now
  unfolding closing_lines
  closings_put p l m = put_all (closing_of a) p l m

  -- the closing places of institute j stand in the answer area
  pub closing_there : (j : ℕ) → j < a.head.institutes
      → seat_width a.head.form * a.head.candidates + closing_width (listed a) * j + 2 * closing_count (listed a) ≤ length a.answer.now
  closing_there j l =
      omega (
        arith,
        a.stands,
        size_parts a.head.form (listed a) a.head.candidates a.head.institutes,
        places_wide (listed a),
        closings_inside (listed a) {w = closing_width (listed a)} {m = a.head.institutes} {j = j} refl l,
      )
