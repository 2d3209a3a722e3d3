-- Seats put into an area one after the other: all of them together are put in as one.
use Prim.Native.Nat.{ℕ, ◌+◌, ◌*◌, ◌-◌, ◌<◌, ◌≤◌}
use mathlib.Core.Path.{◌≡◌, sym, ◌∙◌}
use mathlib.Core.List.{List}
use native.Mathlib.Omega.{arith}
use native.Mathlib.Nat.{zero-add}
use lib.ListN.{length, get_or, take}
use lib.Seq.{sets, drop-drop}
use borrow.Rule.Slice.PartMut.{put_mid}
use Rattle.std.proofs.lemmas.List.{append_assoc}
use Rattle.std.proofs.lemmas.List.Edits.{sets-eq}
use Rattle.lists.specs.Lists.{tabulate, joined}
use Rattle.questions.specs.declared.form.Form.{Form}
use Rattle.questions.specs.declared.form.Form.TheVariants.{Wide}
use Rattle.questions.specs.Form.{institutes_most, seat_width}
use Rattle.lists.proofs.Words.{reached, tabulate_at}
use Rattle.offers.specs.Process.{Seat, no_seat}
use Rattle.offers.specs.Areas.{seat_bytes}
use Rattle.offers.proofs.Pairs.{Pair}
use Rattle.offers.proofs.SeatBytes.{seat_within, length_seat}
use Rattle.offers.specs.Held.{seat_held, seats_held, held_bytes, HoldersFew}
use Rattle.lists.proofs.Pieces.{pieces_more}

-- the seat that two arrays hold for a candidate stands in the list that they hold
pub held_at : (holders steps : List ℕ) (i : ℕ) → i < length holders → get_or (seats_held holders steps) i no_seat ≡ seat_held holders steps i
unfolding seats_held
held_at holders steps i l = tabulate_at (length holders) (seat_held holders steps) no_seat i l

-- bytes copied into a part of an area
pub part_copied : (area bytes : List ℕ) (at end : ℕ) {copied : List ℕ} → copied ≡ bytes → end ≡ at + length bytes → end ≤ length area
    → put_mid at (end - at) area copied ≡ sets area at bytes
part_copied area bytes at end c e l =
    let size : end - at ≡ length bytes = omega (arith, e) in
    rw (c, size, drop-drop (length bytes) at area) (sym (append_assoc (take at area) bytes _) ∙ sym (sets-eq bytes area at (omega (arith, e, l))))

-- a seat of either form
pub wide_seat_lem : {form : Form} (i : ℕ) (s : Seat) (area : List ℕ) {now : List ℕ} → form ≡ Wide → now ≡ sets area (4 * i) (seat_bytes Wide s)
    → now ≡ sets area (seat_width form * i) (seat_bytes form s)
wide_seat_lem i s area e put = put ∙ rw e

-- the bytes of the seats that two arrays hold, seat by seat
abbrev pub held_pieces : Form → List ℕ → List ℕ → ℕ → List ℕ
held_pieces form holders steps i = seat_bytes form (get_or (seats_held holders steps) i no_seat)

-- one seat more
pub seat_more : (form : Form) (holders steps area : List ℕ) {k i institute step n : ℕ} {before now : List ℕ} → Pair holders steps k i institute step
    → now ≡ sets before (seat_width form * i) (seat_bytes form (record { institute = institute; step = step }))
    → before ≡ sets area 0 (joined (tabulate k (held_pieces form holders steps))) → n ≡ k + 1
    → now ≡ sets area 0 (joined (tabulate n (held_pieces form holders steps)))
seat_more form holders steps area {k} {n = n} {before} {now} pair put e count =
    let more : sets before (0 + seat_width form * k) (held_pieces form holders steps k) ≡ sets area 0 (joined (tabulate (k + 1) (held_pieces form holders steps))) =
    pieces_more (seat_width form) (held_pieces form holders steps) (λ i. length_seat form _) area 0 k e in
    let here : sets before (seat_width form * k) (seat_bytes form (seat_held holders steps k)) ≡ sets area 0 (joined (tabulate (k + 1) (held_pieces form holders steps))) =
    rw (zero-add, held_at holders steps k pair.in_first) at more in
    rw count (put ∙ rw (pair.place, pair.first, pair.second) here)

-- there is room for the seat of candidate i, and its holder is small
pub seat_room : (form : Form) (i n : ℕ) {size now : ℕ} → i < n → seat_width form * n ≤ size → now ≡ size → seat_width form * i + seat_width form ≤ now
seat_room form i n l room e = omega (arith, seat_within form n i l)

pub holder_few : (form : Form) (holders : List ℕ) (i : ℕ) {x : ℕ} → HoldersFew form holders → i < length holders → x ≡ get_or holders i 0 → x ≤ institutes_most form
holder_few form holders i few l e = rw e (few i l)

-- all seats
pub seats_put : (form : Form) (holders steps area : List ℕ) {i : ℕ} {now : List ℕ} → i ≤ length holders → length holders ≤ i
    → now ≡ sets area 0 (joined (tabulate i (held_pieces form holders steps))) → now ≡ sets area 0 (held_bytes form holders steps)
unfolding held_bytes
seats_put form holders steps area l m e = reached (λ n. sets area 0 (joined (tabulate n (held_pieces form holders steps)))) l m (sym e)
