-- Pieces put into an area one after the other: all of them together are put in as one.
use Prim.Native.Nat.{ℕ, ◌+◌, ◌-◌, ◌*◌, ◌<◌, ◌≤◌}
use mathlib.Core.Path.{◌≡◌, refl, sym, ap, ◌∙◌}
use mathlib.Core.Bool.{Bool}
use mathlib.Core.List.{List, ◌++◌, append-nil}
use native.Mathlib.Omega.{arith}
use native.Mathlib.Nat.{zero-add}
use borrow.Rule.Slice.PartMut.{put_mid}
use lib.ListN.{length, get_or, take, length-take}
use lib.Seq.{sets, get_or-take, length-take-le}
use Rattle.std.proofs.lemmas.List.{drop_all}
use Rattle.lists.specs.Lists.{tabulate, joined}
use Rattle.round.specs.Round.{Round}
use Rattle.lists.proofs.Joined.{sets_front}
use Rattle.lists.proofs.Pieces.{pieces_more, length_pieces}
use Rattle.choice.specs.declared.step.Numbers.{Numbers}
use Rattle.choice.specs.Noted.{noted_of}
use Rattle.choice.proofs.Noted.{none, map_front}
use Rattle.offers.specs.Process.{account_at_end}
use Rattle.offers.specs.Areas.{word_bytes}
use Rattle.offers.proofs.SeatsPut.{part_copied}
use Rattle.allotment.specs.Areas.{closing_count, closing_width, closing_bytes}
use Rattle.allotment.specs.Writing.{closings_in}
use Rattle.allotment.proofs.Files.AreaSeats.{places_wide, length_closing}
use Rattle.allotment.proofs.Files.Closing.{places_few, closings_in_lem}

-- bytes that fill an area
pub whole_put : (area bytes : List ℕ) → length area ≡ length bytes → sets area 0 bytes ≡ bytes
whole_put area bytes e =
    sets_front area bytes (omega (arith, e)) ∙ ap (λ (rest : List ℕ). bytes ++ rest) (drop_all (length bytes) area (omega (arith, e))) ∙ append-nil bytes

-- the number of closing places, as code has found it
module _ (listed : Bool) {count : ℕ} (found : count ≡ closing_count listed) where
  pub count_few : count ≤ 12
  count_few = omega (arith, found, places_few listed)

  pub places_room : {size : ℕ} → size ≡ closing_width listed → 2 * count ≤ size
  places_room l = omega (arith, l, places_wide listed, ap (λ n. 2 * n) found)

-- the bytes of the closing places in the numbers of an account, step by step
abbrev pub closing_pieces : List Numbers → ℕ → List ℕ
closing_pieces noted k = word_bytes (get_or noted k none).closing

-- one closing place more, of the first so many numbers
pub closing_put : (noted : List Numbers) (area : List ℕ) (k count : ℕ) {before now : List ℕ} → k < length (take count noted)
    → before ≡ sets area 0 (joined (tabulate k (closing_pieces noted)))
    → now ≡ sets before (2 * k) (word_bytes (get_or (take count noted) k none).closing) → now ≡ sets area 0 (joined (tabulate (k + 1) (closing_pieces noted)))
closing_put noted area k count {before} l e g =
    let low : k < count = omega (arith, length-take count noted) in
    g
    ∙ ap (λ (numbers : Numbers). sets before (2 * k) (word_bytes numbers.closing)) (get_or-take count noted k none low)
    ∙ ap (λ (at : ℕ). sets before at (closing_pieces noted k)) (sym (zero-add _))
    ∙ pieces_more 2 (closing_pieces noted) (λ k. refl) area 0 k e

-- all of them
pub closings_put : (listed : Bool) (noted : List Numbers) (area : List ℕ) {k count : ℕ} {now : List ℕ} → length noted ≡ 12 → count ≡ closing_count listed
    → k ≤ length (take count noted) → length (take count noted) ≤ k → length area ≡ closing_width listed
    → now ≡ sets area 0 (joined (tabulate k (closing_pieces noted))) → now ≡ closings_in listed noted
unfolding closings_in
closings_put listed noted area {k} {count} many c l m size e =
    let all : k ≡ closing_count listed = omega (arith, c, length-take-le count noted (omega (arith, c, places_few listed))) in
    let long : length area ≡ length (joined (tabulate (closing_count listed) (closing_pieces noted))) =
    size ∙ sym (length_pieces 2 (closing_pieces noted) (λ k. refl) (closing_count listed) ∙ places_wide listed) in
    e
    ∙ ap (λ n. sets area 0 (joined (tabulate n (closing_pieces noted)))) all
    ∙ whole_put area _ long
    ∙ ap joined (sym (map_front (λ numbers. word_bytes numbers.closing) noted none (closing_count listed) (omega (arith, places_few listed))))

module _ (r : Round) {listed : Bool} {w : ℕ} (flag : listed ≡ r.steps_listed) (wide : w ≡ closing_width listed) where
  abbrev as_wide : w ≡ closing_width r.steps_listed
  as_wide = wide ∙ ap closing_width flag

  -- one institute more
  pub institute_put : (area : List ℕ) (j : ℕ) {before places : List ℕ} {noted : List Numbers} → before ≡ sets area 0 (joined (tabulate j (closing_bytes r)))
      → noted ≡ noted_of (account_at_end r j) → places ≡ closings_in listed noted → w * j + w ≤ length before
      → put_mid (w * j) (w * j + w - w * j) before places ≡ sets area 0 (joined (tabulate (j + 1) (closing_bytes r)))
  institute_put area j {before} {noted = noted} e is written room =
      let bytes = written ∙ ap (λ (b : Bool). closings_in b noted) flag ∙ closings_in_lem r j is in
      part_copied before (closing_bytes r j) (w * j) (w * j + w) bytes (omega (arith, as_wide, length_closing r j)) room
      ∙ ap (λ (at : ℕ). sets before at (closing_bytes r j)) (ap (λ (w : ℕ). w * j) as_wide ∙ sym (zero-add _))
      ∙ pieces_more (closing_width r.steps_listed) (closing_bytes r) (length_closing r) area 0 j e

  -- all of them
  pub institutes_put : (area : List ℕ) {j m : ℕ} {now : List ℕ} → length area ≡ w * m → j ≡ m → now ≡ sets area 0 (joined (tabulate j (closing_bytes r)))
      → now ≡ joined (tabulate m (closing_bytes r))
  institutes_put area {j} {m} size all e =
      let long = size ∙ ap (λ (w : ℕ). w * m) as_wide ∙ sym (length_pieces (closing_width r.steps_listed) (closing_bytes r) (length_closing r) m) in
      e ∙ ap (λ n. sets area 0 (joined (tabulate n (closing_bytes r)))) all ∙ whole_put area _ long
