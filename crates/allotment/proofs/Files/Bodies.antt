-- Records that are the same byte for byte have the same body, wherever they start; files whose first records are the same have one form.
use Prim.Native.Nat.{ℕ, zero, suc, ◌+◌}
use mathlib.Core.Path.{◌≡◌, refl, sym, ap, ◌∙◌}
use mathlib.Core.Bool.{Bool, true, false}
use mathlib.Core.List.{List, [], ◌∷◌}
use native.Mathlib.Nat.{zero-add, suc-add}
use native.Mathlib.Omega.{arith}
use borrow.Author.Tests.{leb-true, leb-false, le-leb, lt-leb}
use lib.Dec.{leb}
use lib.ListN.{length, get_or, take, drop, length-take}
use lib.Seq.{take-nil, drop-drop, get_or-take}
use Rattle.questions.specs.Records.{length_at, start_of, body_of, record_of, form_of}

drop_take : {A : Type 0} (m n : ℕ) (l : List A) → drop m (take (m + n) l) ≡ take n (drop m l)
drop_take zero n l = rw zero-add
drop_take (suc m) n [] = simp take-nil
drop_take (suc m) n (x ∷ l) = rw suc-add (drop_take m n l)

-- the body stands behind the four lead bytes of the record
body_behind : (file : List ℕ) (k : ℕ) → body_of file k ≡ drop 4 (record_of file k)
body_behind file k =
    let start : ℕ = start_of file k in
    sym (drop_take 4 (length_at file start) (drop start file) ∙ ap (λ (l : List ℕ). take (length_at file start) l) (drop-drop 4 start file))

pub same_body : (file other : List ℕ) (k : ℕ) → record_of file k ≡ record_of other k → body_of file k ≡ body_of other k
same_body file other k e = body_behind file k ∙ (ap (λ (l : List ℕ). drop 4 l) e ∙ sym (body_behind other k))

-- the kind of the first record stands in its bytes, and so does whether there are four lead bytes
form_in : (file : List ℕ) → form_of file ≡ form_of (record_of file 0)
unfolding form_of start_of
form_in file =
    let size : ℕ = 4 + length_at file 0 in
    let low : get_or (take size file) 2 0 ≡ get_or file 2 0 = get_or-take size file 2 0 (omega arith) in
    let high : get_or (take size file) 3 0 ≡ get_or file 3 0 = get_or-take size file 3 0 (omega arith) in
    let four : leb 4 (length (take size file)) ≡ leb 4 (length file) = go (leb 4 (length file)) refl in
    rw (four, low, high)
  where
    go : (b : Bool) → leb 4 (length file) ≡ b → leb 4 (length (take (4 + length_at file 0) file)) ≡ leb 4 (length file)
    go true e = rw e (le-leb 4 (length (take (4 + length_at file 0) file)) (omega (arith, leb-true 4 (length file) e, length-take (4 + length_at file 0) file)))
    go false e = rw e (lt-leb 4 (length (take (4 + length_at file 0) file)) (omega (arith, leb-false 4 (length file) e, length-take (4 + length_at file 0) file)))

pub same_form : (file other : List ℕ) → record_of file 0 ≡ record_of other 0 → form_of file ≡ form_of other
same_form file other e = form_in file ∙ (ap form_of e ∙ sym (form_in other))
