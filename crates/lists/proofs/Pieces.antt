-- Pieces of one width, one after the other: how long they are together, what stands at a place of a piece, and putting them into an area.
use Prim.Native.Nat.{ℕ, zero, suc, ◌+◌, ◌*◌, ◌<◌}
use mathlib.Core.Path.{◌≡◌, sym, ap, ◌∙◌}
use mathlib.Core.List.{List}
use native.Mathlib.Omega.{arith}
use native.Mathlib.Nat.{mul-suc, mul-zero, add-zero, zero-add}
use lib.ListN.{length, get_or, length-append, get_or-append}
use lib.Seq.{sets, get_or-append-add}
use native.Mathlib.Numerals.{add-one}
use Rattle.lists.specs.Lists.{tabulate, tabulate_from, joined}
use Rattle.lists.proofs.Joined.{sets_append, joined_more}

module _ (w : ℕ) (f : ℕ → List ℕ) (wide : (i : ℕ) → length (f i) ≡ w) where
  length_from : (s n : ℕ) → length (joined (tabulate_from s n f)) ≡ w * n
  length_from s zero = sym (mul-zero w)
  length_from s (suc n) =
      omega (arith, length-append (f s) (joined (tabulate_from (suc s) n f)), length_from (suc s) n, wide s, mul-suc w n)

  pub length_pieces : (n : ℕ) → length (joined (tabulate n f)) ≡ w * n
  length_pieces n = length_from 0 n

  get_or_from : (s n i k : ℕ) → i < n → k < w → get_or (joined (tabulate_from s n f)) (w * i + k) 0 ≡ get_or (f (s + i)) k 0
  get_or_from s zero i k l m = absurd (omega arith)
  get_or_from s (suc n) zero k l m =
      rw (mul-zero, zero-add, add-zero) (get_or-append (f s) _ 0 k (omega (arith, wide s)))
  get_or_from s (suc n) (suc i) k l m =
      let e : w * suc i + k ≡ length (f s) + (w * i + k) = omega (arith, mul-suc w i, wide s) in
      let q : s + suc i ≡ suc s + i = omega arith in
      rw (e, q) (get_or-append-add (f s) _ (w * i + k) 0 ∙ get_or_from (suc s) n i k (omega arith) m)

  -- byte k of piece i
  pub get_or_pieces : (n i k : ℕ) → i < n → k < w → get_or (joined (tabulate n f)) (w * i + k) 0 ≡ get_or (f i) k 0
  get_or_pieces n i k l m = get_or_from 0 n i k l m ∙ ap (λ (j : ℕ). get_or (f j) k 0) (zero-add i)

-- one piece more
pub pieces_more : (w : ℕ) (f : ℕ → List ℕ) → ((i : ℕ) → length (f i) ≡ w) → (area : List ℕ) (at n : ℕ) {now : List ℕ}
    → now ≡ sets area at (joined (tabulate n f)) → sets now (at + w * n) (f n) ≡ sets area at (joined (tabulate (n + 1) f))
pieces_more w f wide area at n {now} e =
    rw (e, ← length_pieces w f wide n, add-one, joined_more) (sets_append area at (joined (tabulate n f)) (f n))
