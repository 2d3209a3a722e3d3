-- The page that is read off an answer area is the page of the round whose answer stands there.
use Prim.Native.Nat.{ℕ, ◌+◌, ◌*◌, ◌<◌}
use mathlib.Core.Path.{◌≡◌, ap, ap₂}
use mathlib.Core.List.{List, ◌++◌}
use native.Mathlib.Omega.{arith}
use lib.ListN.{get_or}
use Rattle.lists.specs.Lists.{tabulate, joined}
use Rattle.round.specs.Round.{Round}
use Rattle.questions.specs.declared.form.Form.{Form}
use Rattle.questions.specs.Form.{seat_width}
use Rattle.round.specs.Sound.{Sound}
use Rattle.lists.proofs.Tabulate.{tabulate_cong}
use Rattle.offers.specs.Process.{no_seat, candidate_count, institute_count, offers_made, seats, types_used}
use Rattle.offers.proofs.Rounds.Bounds.{merit_short}
use Rattle.offers.proofs.Rounds.SeatsFew.{seat_few}
use Rattle.allotment.specs.Areas.{closing_count, closing_width, closing_places, answer_bytes, type_standing}
use Rattle.offers.specs.Areas.{seat_in}
use Rattle.allotment.proofs.Files.AreaSeats.{seat_stands, type_stands, closing_stands}
use Rattle.allotment.proofs.Files.Closing.{closing_few}
use Rattle.text.specs.Decimal.{next_number}
use Rattle.page.specs.Page.{offers_line, seat_line, places_line, closing_line, page}
use Rattle.page.specs.Reads.{place_in, seat_lines, closing_lines, page_in}

module _ {types : ℕ} (form : Form) (r : Round) (sound : Sound types r) (rest : List ℕ) where
  abbrev answer : List ℕ
  answer = answer_bytes form r ++ rest

  pub digits_few : (i : ℕ) → i < candidate_count r → ((seat_in form answer i).institute < 10000) × ((seat_in form answer i).step < 100)
  digits_few i l = rw (seat_stands form r sound rest i l) (omega (arith, seat_few sound i l, sound.institutes_most_is), omega (arith, seat_few sound i l))

  seats_read : seat_lines form r.steps_listed answer (candidate_count r) (institute_count r)
      ≡ joined (tabulate (candidate_count r) (λ i. seat_line (i + 1) (get_or (seats r) i no_seat) (get_or (types_used r) i 0)))
  unfolding seat_lines
  seats_read =
      ap joined (tabulate_cong (candidate_count r) (λ i. seat_line (i + 1) (seat_in form answer i) (type_standing form r.steps_listed (candidate_count r) (institute_count r) answer i))
      (λ i. seat_line (i + 1) (get_or (seats r) i no_seat) (get_or (types_used r) i 0))
      (λ i l. ap₂ (seat_line (i + 1)) (seat_stands form r sound rest i l) (type_stands form r rest i l)))

  -- how many closing places an institute has, and where those of institute j stand
  abbrev count : ℕ
  count = closing_count r.steps_listed

  abbrev standing : ℕ → ℕ
  standing j = seat_width form * candidate_count r + closing_width r.steps_listed * j

  place_read : (j k : ℕ) → j < institute_count r → k < count → place_in answer (standing j) k ≡ get_or (closing_places r j) k 0
  place_read j k l m =
      let few : get_or (closing_places r j) k 0 < 65536 =
      omega (arith, closing_few r j k count m, merit_short r j (sound.institute j l), sound.candidates_most) in
      closing_stands form r rest j k l m few

  places_read : (j : ℕ) → j < institute_count r
      → places_line count (place_in answer (standing j)) ≡ places_line count (λ k. get_or (closing_places r j) k 0)
  unfolding places_line
  places_read j l =
      ap joined (tabulate_cong count (λ k. next_number (place_in answer (standing j) k)) (λ k. next_number (get_or (closing_places r j) k 0))
      (λ k m. ap next_number (place_read j k l m)))

  closings_read : closing_lines form r.steps_listed answer (candidate_count r) (institute_count r)
      ≡ joined (tabulate (institute_count r) (λ j. closing_line (j + 1) count (λ k. get_or (closing_places r j) k 0)))
  unfolding closing_lines
  closings_read =
      ap joined (tabulate_cong (institute_count r) (λ j. closing_line (j + 1) count (place_in answer (standing j)))
      (λ j. closing_line (j + 1) count (λ k. get_or (closing_places r j) k 0)) (λ j l. rw (places_read j l)))

  pub page_stands : page_in form r.steps_listed (offers_made r) (candidate_count r) (institute_count r) answer ≡ page r
  unfolding page page_in
  page_stands = ap₂ (λ (a b : List ℕ). offers_line (offers_made r) ++ a ++ b) seats_read closings_read
