-- The bytes that an accepted call puts into the answer area: how many they are, and what stands at each place.
use Prim.Native.Nat.{ℕ, suc, ◌+◌, ◌*◌, ◌/◌, ◌%◌, ◌<◌, ◌≤◌}
use mathlib.Core.Path.{◌≡◌, refl, sym, ◌∙◌}
use mathlib.Core.Bool.{Bool, true, false}
use mathlib.Core.List.{List, ◌++◌, append_assoc}
use native.Mathlib.Omega.{arith}
use native.Mathlib.Nat.{add-zero}
use native.Mathlib.Numerals.{add-one}
use lib.ListN.{length, get_or, length-append, get_or-append}
use lib.Seq.{ext_get_or, get_or-append-add}
use Rattle.lists.specs.Lists.{tabulate, joined}
use Rattle.round.specs.Round.{Round}
use Rattle.lists.specs.Numbers.{word}
use Rattle.questions.specs.declared.form.Form.{Form}
use Rattle.questions.specs.declared.form.Form.TheVariants.{Narrow, Wide}
use Rattle.questions.specs.Form.{seat_width}
use Rattle.round.specs.Sound.{Sound}
use Rattle.lists.proofs.Words.{length_tabulate, tabulate_at}
use Rattle.offers.specs.Process.{Seat, no_seat, candidate_count, institute_count, seats, types_used}
use Rattle.allotment.specs.Areas.{closing_count, closing_width, closing_places, closing_bytes, size_for, answer_bytes, answer_size, type_standing}
use Rattle.offers.proofs.SeatBytes.{length_seat}
use Rattle.offers.specs.Areas.{word_bytes, seat_bytes, seat_in, seats_in}
use Rattle.offers.proofs.Rounds.Bounds.{list_length}
use Rattle.offers.proofs.Rounds.AccountRound.{types_length}
use Rattle.offers.proofs.Rounds.SeatsFew.{seat_few}
use Rattle.lists.proofs.Pieces.{length_pieces, get_or_pieces}

-- byte k of seat i lies within the bytes of n seats
within_seats : (form : Form) (n i k : ℕ) → i < n → k < seat_width form → seat_width form * i + k < seat_width form * n
within_seats Narrow n i k l m = omega arith
within_seats Wide n i k l m = omega arith

-- the answer has the seats, the closing places and the types
pub size_parts : (form : Form) (listed : Bool) (n m : ℕ) → size_for form listed n m ≡ seat_width form * n + (closing_width listed * m + n)
size_parts Narrow listed n m = omega arith
size_parts Wide listed n m = omega arith

-- the number of closing places and their bytes, by the flag
pub twelve : (listed : Bool) → listed ≡ true → 12 ≡ closing_count listed
unfolding closing_count
twelve listed e = rw e

pub six : (listed : Bool) → listed ≡ false → 6 ≡ closing_count listed
unfolding closing_count
six listed e = rw e

-- two bytes for each closing place
pub places_wide : (listed : Bool) → 2 * closing_count listed ≡ closing_width listed
unfolding closing_count closing_width
places_wide true = refl
places_wide false = refl

-- few bytes in all
pub closings_few : (listed : Bool) {w m : ℕ} → w ≡ closing_width listed → m ≤ 1000 → w * m ≤ 24000
unfolding closing_width
closings_few listed {w} {m} e l = rw e (go listed)
  where
    go : (listed : Bool) → closing_width listed * m ≤ 24000
    go true = omega arith
    go false = omega arith

-- those of institute j lie among those of m institutes
pub closings_inside : (listed : Bool) {w m j : ℕ} → w ≡ closing_width listed → j < m → w * j + w ≤ w * m
unfolding closing_width
closings_inside listed {w} {m} {j} e l = rw e (go listed)
  where
    go : (listed : Bool) → closing_width listed * j + closing_width listed ≤ closing_width listed * m
    go true = omega arith
    go false = omega arith

-- byte x of the closing places of institute j lies within the bytes of m institutes' closing places
pub within_closings : (listed : Bool) (m j x : ℕ) → j < m → x < closing_width listed → closing_width listed * j + x < closing_width listed * m
unfolding closing_width
within_closings true m j x l o = omega arith
within_closings false m j x l o = omega arith

-- the seat whose bytes stand at the place of candidate i
seat_read : (form : Form) (s : Seat) (area : List ℕ) (i : ℕ) → s.institute < 65536
    → ((k : ℕ) → k < seat_width form → get_or area (seat_width form * i + k) 0 ≡ get_or (seat_bytes form s) k 0) → seat_in form area i ≡ s
unfolding seat_in
seat_read Narrow s area i few at =
    let first : get_or area (2 * i) 0 ≡ s.institute = rw add-zero at (at 0 (omega arith)) in
    let second : get_or area (2 * i + 1) 0 ≡ s.step = at 1 (omega arith) in
    rw (first, second)
seat_read Wide s area i few at =
    let first : get_or area (4 * i) 0 ≡ s.institute % 256 = rw add-zero at (at 0 (omega arith)) in
    let second : get_or area (suc (4 * i)) 0 ≡ s.institute / 256 % 256 = rw add-one at (at 1 (omega arith)) in
    let third : get_or area (4 * i + 2) 0 ≡ s.step = at 2 (omega arith) in
    let fourth : get_or area (4 * i + 3) 0 ≡ 0 = at 3 (omega arith) in
    let behind : suc (4 * i + 2) ≡ 4 * i + 3 = omega arith in
    let last : get_or area (suc (4 * i + 2)) 0 ≡ 0 = rw behind fourth in
    let institute : word area (4 * i) ≡ s.institute = omega arith in
    let step : word area (4 * i + 2) ≡ s.step = omega arith in
    rw (institute, step)

pub length_closing : (r : Round) (j : ℕ) → length (closing_bytes r j) ≡ closing_width r.steps_listed
unfolding closing_bytes
length_closing r j =
    length_pieces 2 (λ k. word_bytes (get_or (closing_places r j) k 0)) (λ k. refl) (closing_count r.steps_listed) ∙ places_wide r.steps_listed

module _ (form : Form) (r : Round) where
  abbrev width : ℕ
  width = closing_width r.steps_listed

  seat_part : List ℕ
  seat_part = joined (tabulate (candidate_count r) (λ i. seat_bytes form (get_or (seats r) i no_seat)))

  closing_part : List ℕ
  closing_part = joined (tabulate (institute_count r) (closing_bytes r))

  answer_parts : answer_bytes form r ≡ seat_part ++ (closing_part ++ types_used r)
  unfolding answer_bytes seat_part closing_part
  answer_parts = append_assoc seat_part closing_part (types_used r)

  length_seat_part : length seat_part ≡ seat_width form * candidate_count r
  unfolding seat_part
  length_seat_part = length_pieces (seat_width form) (λ i. seat_bytes form (get_or (seats r) i no_seat)) (λ i. length_seat form _) (candidate_count r)

  length_closing_part : length closing_part ≡ width * institute_count r
  unfolding closing_part
  length_closing_part = length_pieces width (closing_bytes r) (length_closing r) (institute_count r)

  pub length_answer : length (answer_bytes form r) ≡ answer_size form r
  length_answer =
      rw answer_parts
      (omega (
        arith,
        length-append seat_part (closing_part ++ types_used r),
        length-append closing_part (types_used r),
        length_seat_part,
        length_closing_part,
        types_length r,
        size_parts form r.steps_listed (candidate_count r) (institute_count r),
      ))

  seat_byte : (rest : List ℕ) (i k : ℕ) → i < candidate_count r → k < seat_width form
      → get_or (answer_bytes form r ++ rest) (seat_width form * i + k) 0 ≡ get_or (seat_bytes form (get_or (seats r) i no_seat)) k 0
  unfolding seat_part
  seat_byte rest i k l m =
      let inside : seat_width form * i + k < seat_width form * candidate_count r = within_seats form (candidate_count r) i k l m in
      get_or-append (answer_bytes form r) rest 0 (seat_width form * i + k) (omega (arith, length_answer, size_parts form r.steps_listed (candidate_count r) (institute_count r)))
      ∙ rw answer_parts
      (get_or-append seat_part _ 0 (seat_width form * i + k) (omega (arith, length_seat_part))
      ∙ get_or_pieces (seat_width form) (λ i. seat_bytes form (get_or (seats r) i no_seat)) (λ i. length_seat form _) (candidate_count r) i k l m)

  -- byte b of the closing place of step k, from 0, at institute j
  closing_byte : (j k b : ℕ) → j < institute_count r → k < closing_count r.steps_listed → b < 2
      → get_or (answer_bytes form r) (seat_width form * candidate_count r + width * j + 2 * k + b) 0 ≡ get_or (word_bytes (get_or (closing_places r j) k 0)) b 0
  unfolding closing_part closing_bytes
  closing_byte j k b l m o =
      let at : seat_width form * candidate_count r + width * j + 2 * k + b ≡ length seat_part + (width * j + (2 * k + b)) = omega (arith, length_seat_part) in
      let within : 2 * k + b < width = omega (arith, places_wide r.steps_listed) in
      rw (answer_parts, at)
      (get_or-append-add seat_part _ (width * j + (2 * k + b)) 0
      ∙ (get_or-append closing_part (types_used r) 0 (width * j + (2 * k + b)) (omega (arith, length_closing_part, within_closings r.steps_listed (institute_count r) j (2 * k + b) l within))
      ∙ get_or_pieces width (closing_bytes r) (length_closing r) (institute_count r) j (2 * k + b) l within
      ∙ get_or_pieces 2 (λ k. word_bytes (get_or (closing_places r j) k 0)) (λ k. refl) (closing_count r.steps_listed) k b m o))

  -- the closing place that stands in an area that starts with the answer bytes
  pub closing_stands : (rest : List ℕ) (j k : ℕ) → j < institute_count r → k < closing_count r.steps_listed → get_or (closing_places r j) k 0 < 65536
      → word (answer_bytes form r ++ rest) (seat_width form * candidate_count r + width * j + 2 * k) ≡ get_or (closing_places r j) k 0
  closing_stands rest j k l m few =
      let at : ℕ = seat_width form * candidate_count r + width * j + 2 * k in
      let within : 2 * k + 1 < width = omega (arith, places_wide r.steps_listed) in
      let inside : at + 1 < length (answer_bytes form r) =
      omega (
        arith,
        length_answer,
        size_parts form r.steps_listed (candidate_count r) (institute_count r),
        within_closings r.steps_listed (institute_count r) j (2 * k + 1) l within,
      ) in
      let first : get_or (answer_bytes form r ++ rest) at 0 ≡ get_or (closing_places r j) k 0 % 256 =
      get_or-append (answer_bytes form r) rest 0 at (omega arith) ∙ (rw add-zero at (closing_byte j k 0 l m (omega arith))) in
      let second : get_or (answer_bytes form r ++ rest) (suc at) 0 ≡ get_or (closing_places r j) k 0 / 256 % 256 =
      get_or-append (answer_bytes form r) rest 0 (suc at) (omega arith) ∙ (rw add-one at (closing_byte j k 1 l m (omega arith))) in
      omega arith

  -- the type that stands in an area that starts with the answer bytes
  pub type_stands : (rest : List ℕ) (i : ℕ) → i < candidate_count r
      → type_standing form r.steps_listed (candidate_count r) (institute_count r) (answer_bytes form r ++ rest) i ≡ get_or (types_used r) i 0
  type_stands rest i l =
      let at : seat_width form * candidate_count r + width * institute_count r + i ≡ length seat_part + (length closing_part + i) = omega (arith, length_seat_part, length_closing_part) in
      get_or-append (answer_bytes form r) rest 0 (seat_width form * candidate_count r + width * institute_count r + i)
      (omega (arith, length_answer, size_parts form r.steps_listed (candidate_count r) (institute_count r)))
      ∙ rw (answer_parts, at)
      (get_or-append-add seat_part (closing_part ++ types_used r) (length closing_part + i) 0 ∙ get_or-append-add closing_part (types_used r) i 0)

  module _ {types : ℕ} (sound : Sound types r) where
    -- the seat that stands in an area that starts with the answer bytes
    pub seat_stands : (rest : List ℕ) (i : ℕ) → i < candidate_count r → seat_in form (answer_bytes form r ++ rest) i ≡ get_or (seats r) i no_seat
    seat_stands rest i l =
        seat_read form (get_or (seats r) i no_seat) (answer_bytes form r ++ rest) i (omega (arith, seat_few sound i l, sound.institutes_most_is))
        (λ k m. seat_byte rest i k l m)

    -- and so the whole list
    pub seats_stand : (rest : List ℕ) → seats_in form (candidate_count r) (answer_bytes form r ++ rest) ≡ seats r
    unfolding seats_in
    seats_stand rest =
        let size = length_tabulate 0 (candidate_count r) (seat_in form (answer_bytes form r ++ rest)) in
        ext_get_or no_seat _ (seats r) (size ∙ sym (list_length r))
        (λ i l.
        let m : i < candidate_count r = omega arith in
        tabulate_at (candidate_count r) (seat_in form (answer_bytes form r ++ rest)) no_seat i m ∙ seat_stands rest i m)
