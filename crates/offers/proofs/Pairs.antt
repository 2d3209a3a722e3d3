-- A loop over two tables at once, counted from 0, as `for (i, (x, y)) in xs.iter().zip(ys).enumerate()`: what each turn has.
use Prim.Native.Nat.{ℕ, ◌<◌, min}
use mathlib.Core.Path.{◌≡◌, ◌∙◌, ap}
use mathlib.Core.List.{List}
use native.Mathlib.Omega.{arith}
use native.Mathlib.Nat.{zero-add}
use lib.ListN.{length, get_or}
use denote.Ref.{Bor}
use Rattle.std.specs.Iterator.{Yields}
use Rattle.std.specs.Iterator.Adapters.{zip_first, zip_second, enumerate_source, enumerate_count, enumerate_steps}
use Rattle.std.specs.List.{zip, enumerate_from}
use Rattle.std.specs.Prelude.{Option, Some, None}
use Rattle.std.specs.Slice.Iter.{iter_rest}
use Rattle.std.specs.declared.iter.Enumerate.{Enumerate}
use Rattle.std.specs.declared.iter.Zip.{Zip}
use Rattle.std.specs.declared.slice.Iter.{Iter}
use Rattle.std.proofs.iter.Yields.{fronts}
use Rattle.std.proofs.lemmas.Iterator.{YieldsList, YieldsList-from_slice, YieldsList-from_zip, zips}
use Rattle.std.proofs.lemmas.Iterator.Consumers.{YieldsList-from_enumerate, YieldsList-turn, YieldsList-end}
use Rattle.std.proofs.lemmas.List.{get_or_read}
use Rattle.std.proofs.lemmas.List.FromFn.{length-enumerate_from, get_or-enumerate_from}
use Rattle.std.proofs.lemmas.Slice.Zip.{length-zip, get_or-zip}

-- a turn has the numbers at its place of both tables
pub record Pair (xs ys : List ℕ) (k i x y : ℕ) : Type 0 where
  pub in_first : k < length xs
  pub in_second : k < length ys
  pub place : i ≡ k
  pub first : x ≡ get_or xs k 0
  pub second : y ≡ get_or ys k 0

many : (xs ys : List ℕ) → length (enumerate_from 0 (zip xs ys)) ≡ min (length xs) (length ys)
many xs ys = length-enumerate_from 0 (zip xs ys) ∙ length-zip xs ys

module _ (xs ys : List ℕ) (s t u : Enumerate (Zip (Iter ℕ) (Iter ℕ))) (first : iter_rest (zip_first (enumerate_source s)) ≡ xs)
    (second : iter_rest (zip_second (enumerate_source s)) ≡ ys) (none : enumerate_count s ≡ 0) (passed : List (ℕ × (Bor ℕ × Bor ℕ)))
    (y : Yields (enumerate_steps (zips fronts fronts)) s passed t) (r : Option (ℕ × (Bor ℕ × Bor ℕ))) (step : enumerate_steps (zips fronts fronts) t r u) where
  road : YieldsList (enumerate_steps (zips fronts fronts)) (λ p. (p.0, (p.1.0.now, p.1.1.now))) s (enumerate_from 0 (zip xs ys))
  road = YieldsList-from_enumerate (YieldsList-from_zip (YieldsList-from_slice xs first) (YieldsList-from_slice ys second)) none

  pub pair_turn : {p : ℕ × (Bor ℕ × Bor ℕ)} → r ≡ Some p → Pair xs ys (length passed) p.0 p.1.0.now p.1.1.now
  pair_turn {p} e =
      let turn = YieldsList-turn road passed t y r u p e step in
      let l : length passed < min (length xs) (length ys) = omega (arith, turn.0, many xs ys) in
      let at = turn.1 ∙ get_or-enumerate_from 0 (zip xs ys) (length passed) _ (omega (arith, l, length-zip xs ys)) in
      let both = ap (λ (q : ℕ × (ℕ × ℕ)). q.1) at ∙ get_or-zip xs ys (length passed) _ (omega (arith, l)) (omega (arith, l)) in
      record {
        in_first = omega (arith, l);
        in_second = omega (arith, l);
        place = ap (λ (q : ℕ × (ℕ × ℕ)). q.0) at ∙ zero-add (length passed);
        first = get_or_read xs (length passed) p.1.0.now (omega (arith, l)) (ap (λ (q : ℕ × ℕ). q.0) both) 0;
        second = get_or_read ys (length passed) p.1.1.now (omega (arith, l)) (ap (λ (q : ℕ × ℕ). q.1) both) 0;
      }

  pub pairs_end : r ≡ None → length passed ≡ min (length xs) (length ys)
  pairs_end e = (YieldsList-end road passed t y r u e step).1 ∙ many xs ys
