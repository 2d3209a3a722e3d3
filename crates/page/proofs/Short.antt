-- A page has at most 94,208 bytes.
use Prim.Native.Nat.{ℕ, suc, ◌+◌, ◌*◌, ◌<◌, ◌≤◌}
use mathlib.Core.Bool.{Bool}
use mathlib.Core.List.{List, ◌++◌}
use native.Mathlib.Omega.{arith}
use lib.ListN.{length, get_or, length-append}
use Rattle.questions.specs.declared.form.Form.{Form}
use Rattle.questions.specs.Form.{seat_width}
use Rattle.lists.proofs.Joined.{joined_short}
use Rattle.offers.specs.Process.{Seat}
use Rattle.allotment.specs.Areas.{closing_count, closing_width, type_standing}
use Rattle.allotment.proofs.Files.Closing.{places_few}
use Rattle.offers.specs.Areas.{seat_in}
use Rattle.text.specs.Ascii.{ascii}
use Rattle.text.specs.Decimal.{decimal, next_number, named}
use Rattle.text.proofs.Decimals.{decimal_short}
use Rattle.page.specs.Page.{offers_line, seat_line, places_line, closing_line, refused_line}
use Rattle.page.specs.Reads.{place_in, seat_lines, closing_lines, page_in}

-- a number of 64 bits has at most 20 digits
digits_20 : (n : ℕ) → n < 18446744073709551616 → length (decimal n) ≤ 20
digits_20 n l = decimal_short 19 n (omega arith)

pub offers_short : (offers : ℕ) → offers < 18446744073709551616 → length (offers_line offers) ≤ 28
offers_short offers l = omega (arith, length-append (decimal offers) (ascii "\n"), digits_20 offers l)

pub refusal_short : (number offset : ℕ) → number < 18446744073709551616 → offset < 18446744073709551616 → length (refused_line number offset) ≤ 53
refusal_short number offset l m =
    omega (
      arith,
      length-append (named (ascii "refused") number ++ named (ascii " at") offset) (ascii "\n"),
      length-append (named (ascii "refused") number) (named (ascii " at") offset),
      digits_20 number l,
      digits_20 offset m,
    )

seat_short : (candidate : ℕ) (s : Seat) (type : ℕ) → candidate < 1000 → s.institute < 10000 → s.step < 100 → type < 256 → length (seat_line candidate s type) ≤ 16
seat_short candidate s type l m o t =
    omega (
      arith,
      length-append (decimal candidate ++ next_number s.institute ++ next_number s.step ++ next_number type) (ascii "\n"),
      length-append (decimal candidate ++ next_number s.institute ++ next_number s.step) (next_number type),
      length-append (decimal candidate ++ next_number s.institute) (next_number s.step),
      length-append (decimal candidate) (next_number s.institute),
      decimal_short 2 candidate (omega arith),
      decimal_short 3 s.institute (omega arith),
      decimal_short 1 s.step (omega arith),
      decimal_short 2 type (omega arith),
    )

-- an answer area holds bytes
module _ (answer : List ℕ) (bytes : (i : ℕ) → get_or answer i 0 < 256) where
  places_short : (count from : ℕ) → length (places_line count (place_in answer from)) ≤ 6 * count
  unfolding places_line
  places_short count from = joined_short 6 count (λ k. next_number (place_in answer from k)) (λ k l. place_short k)
    where
      place_short : (k : ℕ) → length (next_number (place_in answer from k)) ≤ 6
      place_short k = omega (arith, decimal_short 4 (place_in answer from k) (omega (arith, bytes (from + 2 * k), bytes (suc (from + 2 * k)))))

  closing_short : (institute count from : ℕ) → institute < 10000 → count ≤ 12 → length (closing_line institute count (place_in answer from)) ≤ 85
  closing_short institute count from l m =
      omega (
        arith,
        length-append (named (ascii "closing") institute ++ places_line count (place_in answer from)) (ascii "\n"),
        length-append (named (ascii "closing") institute) (places_line count (place_in answer from)),
        decimal_short 3 institute (omega arith),
        places_short count from,
      )

  -- the institute and the step of a seat have few digits
  module _ (form : Form) (listed : Bool) {candidates institutes : ℕ} (n : candidates ≤ 512) (m : institutes ≤ 1000)
      (few : (i : ℕ) → i < candidates → ((seat_in form answer i).institute < 10000) × ((seat_in form answer i).step < 100)) where
    seats_short : length (seat_lines form listed answer candidates institutes) ≤ 16 * candidates
    unfolding seat_lines
    seats_short =
        joined_short 16 candidates (λ i. seat_line (i + 1) (seat_in form answer i) (type_standing form listed candidates institutes answer i))
        (λ i l.
        seat_short (i + 1) (seat_in form answer i) (type_standing form listed candidates institutes answer i) (omega arith) (few i l).0 (few i l).1
        (bytes (seat_width form * candidates + closing_width listed * institutes + i)))

    closings_short : length (closing_lines form listed answer candidates institutes) ≤ 85 * institutes
    unfolding closing_lines
    closings_short =
        joined_short 85 institutes (λ j. closing_line (j + 1) (closing_count listed) (place_in answer (seat_width form * candidates + closing_width listed * j)))
        (λ j l. closing_short (j + 1) (closing_count listed) _ (omega arith) (places_few listed))

    pub page_short : (offers : ℕ) → offers < 18446744073709551616 → length (page_in form listed offers candidates institutes answer) ≤ 94208
    unfolding page_in
    page_short offers l =
        omega (
          arith,
          length-append (offers_line offers ++ seat_lines form listed answer candidates institutes) (closing_lines form listed answer candidates institutes),
          length-append (offers_line offers) (seat_lines form listed answer candidates institutes),
          offers_short offers l,
          seats_short,
          closings_short,
        )
