-- Lists put one after the other, and runs of bytes stored one behind the other.
use Prim.Native.Nat.{ℕ, zero, suc, ◌+◌, ◌*◌, ◌<◌, ◌≤◌}
use mathlib.Core.Path.{◌≡◌, refl, sym, ap, ◌∙◌}
use mathlib.Core.List.{List, [], ◌∷◌, ◌++◌, append_assoc, append-nil}
use native.Mathlib.Omega.{arith}
use native.Mathlib.Nat.{add-zero, zero-add, mul-suc}
use lib.ListN.{length, get_or, set, take, drop, length-append, length-take, length-drop, get_or-append}
use lib.Seq.{sets, sets-eq, length-sets, length-take-le, get_or-take, get_or-drop, get_or-append-add, get_or-set_other, ext_get_or}
use Rattle.lists.specs.Lists.{tabulate, tabulate_from, joined}

-- two runs of bytes, the second behind the first
pub sets_append : (area : List ℕ) (at : ℕ) (xs ys : List ℕ) → sets (sets area at xs) (at + length xs) ys ≡ sets area at (xs ++ ys)
sets_append area at [] ys = rw add-zero
sets_append area at (x ∷ xs) ys =
    let q : at + suc (length xs) ≡ suc at + length xs = omega arith in
    rw q (sets_append (set area at x) (suc at) xs ys)

-- a run of bytes from the front
pub sets_front : (area bytes : List ℕ) → length bytes ≤ length area → sets area 0 bytes ≡ bytes ++ drop (length bytes) area
sets_front area bytes l = sets-eq bytes area 0 (omega arith) ∙ rw zero-add

-- a run of bytes leaves what stands in front of it and behind it
pub sets_outside : (area : List ℕ) (at : ℕ) (bytes : List ℕ) (x : ℕ) → (at ≤ x → at + length bytes ≤ x) → get_or (sets area at bytes) x 0 ≡ get_or area x 0
sets_outside area at [] x out = refl
sets_outside area at (b ∷ bytes) x out =
    sets_outside (set area at b) (suc at) bytes x (λ l. omega (arith, out (omega arith))) ∙ get_or-set_other area at x b 0 (λ e. omega (arith, out (omega arith)))

pub sets_inside : (area : List ℕ) (at : ℕ) (bytes : List ℕ) (x : ℕ) → at + length bytes ≤ length area → x < length bytes → get_or (sets area at bytes) (at + x) 0 ≡ get_or bytes x 0
sets_inside area at bytes x fits l =
    let front : length (take at area) ≡ at = length-take-le at area (omega arith) in
    ap (λ (s : List ℕ). get_or s (at + x) 0) (sets-eq bytes area at fits)
    ∙ (get_or-append (take at area ++ bytes) (drop (at + length bytes) area) 0 (at + x) (omega (arith, length-append (take at area) bytes))
    ∙ (ap (λ (n : ℕ). get_or (take at area ++ bytes) (n + x) 0) (sym front) ∙ get_or-append-add (take at area) bytes x 0))

-- a part that does not meet it is the same
pub sets_part : (area : List ℕ) (at : ℕ) (bytes : List ℕ) (a n : ℕ) → (at < a + n → at + length bytes ≤ a) → take n (drop a (sets area at bytes)) ≡ take n (drop a area)
sets_part area at bytes a n out = ext_get_or 0 _ _ (simp (length-take, length-drop, length-sets)) same
  where
    same : (x : ℕ) → x < length (take n (drop a (sets area at bytes))) → get_or (take n (drop a (sets area at bytes))) x 0 ≡ get_or (take n (drop a area)) x 0
    same x l =
        let m : x < n = omega (arith, length-take n (drop a (sets area at bytes))) in
        simp (get_or-take, get_or-drop) (sets_outside area at bytes (a + x) (λ o. omega (arith, out (omega arith))))

joined_from : (s n : ℕ) (f : ℕ → List ℕ) → joined (tabulate_from s (suc n) f) ≡ joined (tabulate_from s n f) ++ f (s + n)
joined_from s zero f = rw add-zero (append-nil (f s))
joined_from s (suc n) f =
    let q : s + suc n ≡ suc s + n = omega arith in
    rw (joined_from (suc s) n f, q) (sym (append_assoc (f s) _ _))

-- one piece more
pub joined_more : (n : ℕ) (f : ℕ → List ℕ) → joined (tabulate (suc n) f) ≡ joined (tabulate n f) ++ f n
joined_more n f = joined_from 0 n f ∙ rw zero-add

short_from : (w s n : ℕ) (f : ℕ → List ℕ) → ((i : ℕ) → i < s + n → length (f i) ≤ w) → length (joined (tabulate_from s n f)) ≤ w * n
short_from w s zero f h = omega arith
short_from w s (suc n) f h =
    omega (
      arith,
      length-append (f s) (joined (tabulate_from (suc s) n f)),
      h s (omega arith),
      short_from w (suc s) n f (λ i l. h i (omega arith)),
      mul-suc w n,
    )

-- pieces of at most one width
pub joined_short : (w n : ℕ) (f : ℕ → List ℕ) → ((i : ℕ) → i < n → length (f i) ≤ w) → length (joined (tabulate n f)) ≤ w * n
joined_short w n f h = short_from w 0 n f (λ i l. h i (omega arith))
