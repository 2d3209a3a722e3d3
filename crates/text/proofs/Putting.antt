-- Texts put one behind the other.
use Prim.Native.Nat.{ℕ, zero, suc, ◌+◌, ◌-◌, ◌≤◌, ◌<◌}
use mathlib.Core.Path.{◌≡◌, sym, ap, ◌∙◌}
use mathlib.Core.List.{List, ◌++◌, append_assoc}
use native.Mathlib.Omega.{arith}
use native.Mathlib.Numerals.{add-one}
use borrow.Rule.Slice.PartMut.{put_mid}
use lib.ListN.{length, take, drop, length-append}
use lib.Seq.{sets, sets-eq, drop-drop, length-take-le, take-append_seam, drop-append_seam}
use Rattle.lists.specs.Lists.{tabulate, tabulate_from, joined}
use Rattle.lists.proofs.Joined.{sets_append, sets_front, joined_more}
use Rattle.text.specs.declared.Text.{Text}
use Rattle.text.specs.Put.{Fits, Put, Front}

-- one text and then another are both together
pub put_then : {area mid now : Text} {xs ys : List ℕ} → Put area xs mid → Put mid ys now → Put area (xs ++ ys) now
put_then {area} {xs = xs} {ys = ys} p q = record {
  stored = q.stored ∙ rw (p.stored, p.next) (sets_append area.area.now area.len xs ys);
  next = omega (arith, length-append xs ys);
  kept = q.kept ∙ p.kept;
  same = q.same ∙ p.same;
}

-- where there is room for two, there is for the first
pub fits_first : {area : Text} (xs ys : List ℕ) → Fits area (xs ++ ys) → Fits area xs
fits_first xs ys l = record { room = omega (arith, length-append xs ys) }

-- and behind it for the second
pub fits_then : {area mid : Text} {xs : List ℕ} (ys : List ℕ) → Fits area (xs ++ ys) → Put area xs mid → Fits mid ys
fits_then {xs = xs} ys l p = record { room = omega (arith, length-append xs ys) }

-- some bytes in the place of as many
pub bytes_stored : (area bytes part : List ℕ) (at end : ℕ) → part ≡ bytes → end ≡ at + length bytes → end ≤ length area
    → put_mid at (end - at) area part ≡ sets area at bytes
bytes_stored area bytes part at end same e l =
    let many : end - at ≡ length bytes = omega arith in
    rw (same, many, drop-drop (length bytes) at area, ← append_assoc (take at area) bytes (drop (at + length bytes) area)) (sym (sets-eq bytes area at (omega arith)))

-- more pieces are no shorter
more_longer : (f : ℕ → List ℕ) (s i n : ℕ) → i ≤ n → length (joined (tabulate_from s i f)) ≤ length (joined (tabulate_from s n f))
more_longer f s zero n l = omega arith
more_longer f s (suc i) zero l = absurd (omega arith)
more_longer f s (suc i) (suc n) l =
    omega (
      arith,
      length-append (f s) (joined (tabulate_from (suc s) i f)),
      length-append (f s) (joined (tabulate_from (suc s) n f)),
      more_longer f (suc s) i n (omega arith),
    )

-- a text of pieces, where there is room for n of them: there is for the next one
pub fits_piece : {area mid : Text} (f : ℕ → List ℕ) (n i : ℕ) → i < n → Fits area (joined (tabulate n f))
    → Put area (joined (tabulate i f)) mid → Fits mid (f i)
fits_piece f n i l room p = record {
  room = omega (arith, ap length (joined_more i f), length-append (joined (tabulate i f)) (f i), more_longer f 0 (suc i) n (omega arith));
}

-- one piece more
pub put_piece : {area mid now : Text} (f : ℕ → List ℕ) (i : ℕ) → Put area (joined (tabulate i f)) mid
    → Put mid (f i) now → Put area (joined (tabulate (i + 1) f)) now
put_piece f i p q = rw (add-one, joined_more) (put_then p q)

-- all of them
pub put_all : {area now : Text} {i n : ℕ} (f : ℕ → List ℕ) → Put area (joined (tabulate i f)) now → i ≤ n → n ≤ i
    → Put area (joined (tabulate n f)) now
put_all {i = i} {n = n} f p l m = let e : n ≡ i = omega arith in rw e p

-- a text that is put in from the front stands there
pub front_put : {area now : Text} {text : List ℕ} → area.len ≡ 0 → Put area text now → Front area.area.now text now.area.now now.len
front_put {area} {now} {text} empty p =
    let long : now.len ≡ length text = omega arith in
    let front : sets area.area.now area.len text ≡ sets area.area.now 0 text = ap (λ n. sets area.area.now n text) empty in
    let whole : now.area.now ≡ text ++ drop (length text) area.area.now = p.stored ∙ front ∙ sets_front area.area.now text (omega (arith, now.inside)) in
    record {
      counts = (now.inside, sym (length-take-le now.len now.area.now now.inside));
      shows = rw (long, whole) (take-append_seam text (drop (length text) area.area.now));
      rest = rw (long, whole) (drop-append_seam text (drop (length text) area.area.now));
    }
