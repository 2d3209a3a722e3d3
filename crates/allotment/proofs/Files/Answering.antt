-- The answer area after the seats, the closing places and the types are put in, where two arrays hold the list of the round.
use Prim.Native.Nat.{ℕ, ◌+◌, ◌*◌, ◌≤◌, ◌<◌}
use mathlib.Core.Path.{◌≡◌, sym, ap, ◌∙◌}
use mathlib.Core.Bool.{Bool}
use mathlib.Core.List.{List, ◌++◌, append_assoc}
use native.Mathlib.Omega.{arith}
use lib.ListN.{length, get_or, drop}
use lib.Seq.{sets, ext_get_or, drop-drop}
use Rattle.lists.specs.Lists.{tabulate, joined}
use Rattle.questions.specs.declared.form.Form.{Form}
use Rattle.questions.specs.Form.{seat_width}
use Rattle.questions.specs.declared.head.Head.{Head as CodeHead}
use Rattle.reader.specs.declared.change.Change.{Change}
use Rattle.reader.specs.Opened.{opened_round, OpenedFile}
use Rattle.offers.proofs.Known.{candidates_many, institutes_many, candidates_few, round_sound}
use Rattle.reader.proofs.Bodies.{opened_listed, institutes_fit}
use Rattle.questions.specs.Records.{own_steps}
use Rattle.questions.specs.Read.{as_head}
use Rattle.offers.proofs.Rounds.AccountRound.{types_length}
use Rattle.round.specs.Round.{Round}
use Rattle.lists.proofs.Words.{length_tabulate}
use Rattle.offers.specs.Process.{Seat, no_seat, candidate_count, seats, types_used}
use Rattle.allotment.specs.Areas.{closing_width, closing_bytes, answer_bytes, answer_size}
use Rattle.offers.specs.Held.{HeldIn, seat_held, seats_held, held_bytes, HoldersFew}
use Rattle.offers.proofs.Rounds.Bounds.{list_length}
use Rattle.offers.proofs.Rounds.SeatsFew.{seat_few}
use Rattle.lists.proofs.Pieces.{length_pieces}
use Rattle.offers.proofs.SeatBytes.{length_seat}
use Rattle.allotment.proofs.Files.Putting.{whole_put}
use Rattle.allotment.proofs.Files.AreaSeats.{size_parts}
use Rattle.offers.proofs.SeatsPut.{held_at, held_pieces}

-- two arrays hold one list
held_one : (list : List Seat) (holders steps : List ℕ) → HeldIn list holders steps → seats_held holders steps ≡ list
unfolding seats_held
held_one list holders steps held =
    let size = length_tabulate 0 (length holders) (seat_held holders steps) in
    ext_get_or no_seat (seats_held holders steps) list (size ∙ held.holders_many)
    (λ i l. held_at holders steps i (omega arith) ∙ sym (held.seat i (omega (arith, held.holders_many))))

length_held : (form : Form) (holders steps : List ℕ) → length (held_bytes form holders steps) ≡ seat_width form * length holders
unfolding held_bytes
length_held form holders steps = length_pieces (seat_width form) (held_pieces form holders steps) (λ i. length_seat form _) (length holders)

-- an opened round, and two arrays that hold its list
module _ {file : List ℕ} {h : CodeHead} {change : Change} {row starts : List ℕ} (hand : OpenedFile file h change row starts) {holders steps : List ℕ}
    (list : HeldIn (seats (opened_round file change row)) holders steps) where
  abbrev r : Round
  r = opened_round file change row

  held_many : length holders ≡ h.candidates
  held_many = list.holders_many ∙ list_length r ∙ candidates_many hand

  pub as_many : (length steps ≡ length holders) × (length holders ≤ 512)
  as_many = (list.steps_many ∙ sym list.holders_many, omega (arith, held_many, candidates_few hand))

  -- each holder is 0 or an institute that a file of the form may have
  pub holders_small : HoldersFew h.form holders
  holders_small i l =
      let inside : i < candidate_count r = omega (arith, held_many, candidates_many hand) in
      let at : (get_or (seats r) i no_seat).institute ≡ get_or holders i 0 = ap (λ (s : Seat). s.institute) (list.seat i (omega (arith, list_length r))) in
      omega (arith, at, seat_few (round_sound hand) i inside, institutes_many hand, institutes_fit hand)

  -- room for a seat of each
  pub seats_room : {size : ℕ} → size ≡ seat_width h.form * h.candidates → seat_width h.form * length holders ≤ size
  seats_room known = rw held_many (omega (arith, known))

  -- a type for each
  pub types_many : {types : List ℕ} → types ≡ types_used r → length types ≡ h.candidates
  types_many typed = ap length typed ∙ types_length r ∙ candidates_many hand

  -- the three parts together
  parts : held_bytes h.form holders steps ++ joined (tabulate h.institutes (closing_bytes r)) ++ types_used r ≡ answer_bytes h.form r
  unfolding held_bytes answer_bytes
  parts = rw (held_one (seats r) holders steps list, held_many, ← candidates_many hand, ← institutes_many hand)

  -- and their sizes, with those that code has found of the seats and of the closing places of an institute
  module _ {listed : Bool} {w size : ℕ} (flag : listed ≡ own_steps (as_head h)) (wide : w ≡ closing_width listed) (known : size ≡ seat_width h.form * h.candidates) where
    pub size_known : answer_size h.form r ≡ size + (w * h.institutes + h.candidates)
    size_known = rw (candidates_many hand, institutes_many hand, wide, flag, known, ← opened_listed hand) (size_parts h.form r.steps_listed h.candidates h.institutes)

    pub closings_long : {long : ℕ} → long ≡ w * h.institutes → long ≡ closing_width r.steps_listed * h.institutes
    closings_long e = e ∙ ap (λ (w : ℕ). w * h.institutes) (wide ∙ ap closing_width (flag ∙ sym (opened_listed hand)))

    -- there is room for the types behind the others
    pub types_room : {room rest behind : ℕ} → answer_size h.form r ≤ room → rest + size ≡ room → behind + w * h.institutes ≡ rest → h.candidates ≤ behind
    types_room fits cut cut' = omega (arith, fits, cut, cut', size_known)

    -- what stands behind them all stays
    pub answer_put : (front area : List ℕ) {seated closings types copied rest behind : List ℕ} → length front ≡ size → seated ≡ sets front 0 (held_bytes h.form holders steps)
        → closings ≡ joined (tabulate h.institutes (closing_bytes r)) → types ≡ types_used r → copied ≡ types → rest ≡ drop size area → behind ≡ drop (w * h.institutes) rest
        → seated ++ (closings ++ (copied ++ drop h.candidates behind)) ≡ answer_bytes h.form r ++ drop (answer_size h.form r) area
    answer_put front area {seated} {closings} {types} {copied} {rest} {behind} room first second typed third cut cut' =
        let held : seated ≡ held_bytes h.form holders steps =
        first ∙ whole_put front _ (room ∙ known ∙ sym (length_held h.form holders steps ∙ ap (λ (n : ℕ). seat_width h.form * n) held_many)) in
        let stays : drop h.candidates behind ≡ drop (answer_size h.form r) area =
        rw (cut', cut, size_known) (drop-drop h.candidates (w * h.institutes) (drop size area) ∙ drop-drop (w * h.institutes + h.candidates) size area) in
        rw (stays, third, held, second, typed, ← parts)
        (sym (append_assoc (held_bytes h.form holders steps) _ _) ∙ sym (append_assoc _ (types_used r) _))
