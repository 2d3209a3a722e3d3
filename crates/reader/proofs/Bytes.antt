-- Lists of bytes, and that an institute's steps written as a list are bytes where the body's are.
use Prim.Native.Nat.{ℕ, zero, suc, ◌+◌, ◌*◌, ◌/◌, ◌%◌, ◌<◌, ◌≤◌}
use mathlib.Core.Path.{◌≡◌}
use mathlib.Core.Bool.{Bool, true, false, cond, ◌&&◌}
use mathlib.Core.List.{List, [], ◌∷◌, ◌++◌}
use native.Mathlib.Omega.{arith}
use native.Mathlib.Nat.{div-add-mod', mul-le-mul}
use borrow.Author.Tests.{leb-true, eqb-true, ne_eqb}
use lib.Dec.{leb, eqb}
use lib.ListN.{length, get_or, take, drop, replicate}
use lib.Seq.{get_or-drop}
use Rattle.questions.specs.Records.{Head}
use Rattle.lists.specs.Lists.{tabulate, tabulate_from, joined}
use Rattle.questions.specs.Steps.{step_width, receiver_in}
use Rattle.lists.specs.Numbers.{within}
use Rattle.questions.specs.Questions.{institute_allowed}
use Rattle.reader.specs.Rewritten.{short_record, list_body}
use Rattle.lists.proofs.Words.{and_fst, and_snd}
use Rattle.reader.proofs.Listed.{with_policy, piece_of}

-- each number is that of a byte
abbrev pub Bytes : List ℕ → Type 0
Bytes l = (i : ℕ) → get_or l i 0 < 256

pub bytes_none : Bytes []
bytes_none i = omega arith

pub bytes_more : (x : ℕ) (l : List ℕ) → x < 256 → Bytes l → Bytes (x ∷ l)
bytes_more x l few b zero = few
bytes_more x l few b (suc i) = b i

pub bytes_append : (a b : List ℕ) → Bytes a → Bytes b → Bytes (a ++ b)
bytes_append [] b p q i = q i
bytes_append (x ∷ a) b p q zero = p 0
bytes_append (x ∷ a) b p q (suc i) = bytes_append a b (λ i. p (suc i)) q i

pub bytes_take : (n : ℕ) (l : List ℕ) → Bytes l → Bytes (take n l)
bytes_take zero l b i = omega arith
bytes_take (suc n) [] b i = b i
bytes_take (suc n) (x ∷ l) b zero = b 0
bytes_take (suc n) (x ∷ l) b (suc i) = bytes_take n l (λ i. b (suc i)) i

pub bytes_drop : (n : ℕ) (l : List ℕ) → Bytes l → Bytes (drop n l)
bytes_drop n l b i = omega (arith, get_or-drop n l i 0, b (n + i))

bytes_zeros : (n : ℕ) → Bytes (replicate n 0)
bytes_zeros zero i = omega arith
bytes_zeros (suc n) zero = omega arith
bytes_zeros (suc n) (suc i) = bytes_zeros n i

pub bytes_joined : (s n : ℕ) (g : ℕ → List ℕ) → ((k : ℕ) → k < s + n → Bytes (g k)) → Bytes (joined (tabulate_from s n g))
bytes_joined s zero g each = bytes_none
bytes_joined s (suc n) g each =
    bytes_append (g s) (joined (tabulate_from (suc s) n g)) (each s (omega arith)) (bytes_joined (suc s) n g (λ k l. each k (omega arith)))

pub bytes_short : (kind : ℕ) (body : List ℕ) → kind < 256 → length body < 256 → Bytes body → Bytes (short_record kind body)
bytes_short kind body few short b =
    bytes_more (length body) (0 ∷ kind ∷ 0 ∷ body) short
    (bytes_more 0 (kind ∷ 0 ∷ body) (omega arith) (bytes_more kind (0 ∷ body) few (bytes_more 0 body (omega arith) b)))

module _ (h : Head) (policy-few : h.policy ≤ 1) (body : List ℕ) (b : Bytes body) where
  receiver_few : (k : ℕ) → receiver_in h body k < 256
  receiver_few k = rw (ne_eqb h.policy 2 (λ e. omega arith)) (go (eqb h.policy 1 && eqb k 3))
    where
      go : (t : Bool) → cond t 6 0 < 256
      go true = omega arith
      go false = omega arith

  pub bytes_list : Bytes (list_body h body)
  unfolding list_body
  bytes_list =
      bytes_append (joined (tabulate 5 (piece_of h body))) (cond (eqb h.policy 1) (0 ∷ 0 ∷ replicate (step_width h) 0) [])
      (bytes_joined 0 5 (piece_of h body) piece) (go (eqb h.policy 1))
    where
      piece : (k : ℕ) → k < 0 + 5 → Bytes (piece_of h body k)
      piece k l =
          let steps : List ℕ = take (step_width h) (drop (k * step_width h) body) in
          bytes_more k (receiver_in h body k ∷ steps) (omega arith)
          (bytes_more (receiver_in h body k) steps (receiver_few k) (bytes_take (step_width h) (drop (k * step_width h) body) (bytes_drop (k * step_width h) body b)))

      go : (t : Bool) → Bytes (cond t (0 ∷ 0 ∷ replicate (step_width h) 0) [])
      go true = bytes_zeros (suc (suc (step_width h)))
      go false = bytes_none

-- a list of an allowed length has fewer than 256 bytes
pub list_short : (h : Head) (len : ℕ) → h.types ≤ 8 → institute_allowed (with_policy 2 h) len ≡ true → len < 256
list_short h len few e =
    let w : ℕ = step_width (with_policy 2 h) in
    let some = and_fst (within 1 12 (len / w)) (eqb (len % w) 0) e in
    let most : len / w ≤ 12 = leb-true (len / w) 12 (and_snd (leb 1 (len / w)) (leb (len / w) 12) some) in
    let whole : len % w ≡ 0 = eqb-true (len % w) 0 (and_snd (within 1 12 (len / w)) (eqb (len % w) 0) e) in
    let wide : w ≤ 20 = omega arith in
    omega (arith, div-add-mod' len w, mul-le-mul most wide)
