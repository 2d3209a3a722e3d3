-- Filling by merit, one place after the other: what is known at place p, and how it goes on in each case.
use Prim.Native.Nat.{ℕ, ◌+◌, ◌≤◌, ◌<◌, min}
use mathlib.Core.Path.{◌≡◌, refl, sym, ap, ◌∙◌}
use mathlib.Core.Bool.{Bool, true, false, cond, ◌&&◌, and-false}
use mathlib.Core.List.{List}
use native.Mathlib.Omega.{arith}
use native.Mathlib.Numerals.{add-one}
use lib.Dec.{eqb, ltb}
use lib.ListN.{length, get_or, set}
use borrow.Author.Tests.{lt-ltb, le-ltb}
use Rattle.lists.specs.Lists.{count_of, bit, tabulate, greatest_of}
use Rattle.lists.specs.Numbers.{holds}
use Rattle.placing.specs.Offers.{considers_by}
use Rattle.matching.specs.Use.{typed_at}
use Rattle.choice.specs.Fill.{rest_at, fills_at, seats_at}
use Rattle.lists.specs.Lists.{last_of}
use Rattle.lists.proofs.Counting.{bit_true, bit_false}
use Rattle.lists.proofs.Counts.{count_more}
use Rattle.lists.proofs.Last.{last_in, last_out}
use Rattle.lists.proofs.Written.{Written, begin, write, keep, tabulated}

-- what a place holds after the step
abbrev pub seated : ℕ → ℕ → ℕ → List ℕ → List ℕ → List ℕ → ℕ → ℕ
seated number code free offers placed given q =
    cond (seats_at placed (considers_by offers given code) free q) number (get_or given q 0)

-- the type used there after the step
abbrev pub type_after : List ℕ → List ℕ → ℕ → ℕ
type_after placed used₀ q = cond (typed_at placed q) (get_or placed q 0) (get_or used₀ q 0)

-- the places below p hold what they hold after the step, steps and types; of the rest below p as many got it as positions are free,
-- the last of them at the closing place
pub record Filled (number code free : ℕ) (offers placed given used₀ steps used : List ℕ) (filled closing p : ℕ) : Type 0 where
  pub number_filled : filled ≡ min free (count_of p (rest_at placed (considers_by offers given code)))
  pub closes : closing ≡ last_of p (fills_at placed (considers_by offers given code) free)
  pub written : Written given steps (seated number code free offers placed given) p
  pub used_written : Written used₀ used (type_after placed used₀) p

module _ (number code free : ℕ) (offers placed given used₀ : List ℕ) where
  abbrev X : ℕ → Bool
  X = considers_by offers given code

  abbrev rest : ℕ → Bool
  rest = rest_at placed X

  abbrev fills : ℕ → Bool
  fills = fills_at placed X free

  pub none_filled : Filled number code free offers placed given used₀ given used₀ 0 0 0
  none_filled = record { number_filled = omega arith; closes = unfold greatest_of in refl; written = begin given _; used_written = begin used₀ _ }

  pub all_filled : {steps used : List ℕ} {filled closing p : ℕ} → length used₀ ≡ length given → Filled number code free offers placed given used₀ steps used filled closing p → p ≡ length given
      → (steps ≡ tabulate (length given) (seated number code free offers placed given)) × (filled ≡ min free (count_of (length given) rest))
      × (used ≡ tabulate (length given) (type_after placed used₀)) × (closing ≡ last_of (length given) fills)
  all_filled {p = p} each k end = (
    tabulated given _ _ p k.written (omega arith),
    k.number_filled ∙ ap (λ (n : ℕ). min free (count_of n rest)) end,
    rw each at (tabulated used₀ _ _ p k.used_written (omega arith)),
    k.closes ∙ ap (λ (n : ℕ). last_of n fills) end,
  )

  module _ (steps used : List ℕ) (filled closing p : ℕ) (each : length used₀ ≡ length given) (inside : p < length given)
      (k : Filled number code free offers placed given used₀ steps used filled closing p) where
    one_more : (b : ℕ) → bit (rest p) ≡ b → count_of p rest + b ≡ count_of (p + 1) rest
    one_more b e = count_more rest p (count_of p rest) b refl e

    -- it does not fill
    not_closing : fills p ≡ false → closing ≡ last_of (p + 1) fills
    not_closing out = rw add-one (k.closes ∙ sym (last_out fills p out))

    -- the test of the steps as they are is that of the steps given
    considered : considers_by offers steps code p ≡ X p
    considered = ap (λ (x : ℕ). holds (get_or offers p 0) code && eqb x 0) (k.written.above p (omega arith))

    -- it has a type
    pub by_type : {l u : List ℕ} {v c : ℕ} → (get_or placed p 0 ≡ 0 → ⊥) → l ≡ set steps p number → u ≡ set used p (get_or placed p 0) → v ≡ filled → c ≡ closing
        → Filled number code free offers placed given used₀ l u v c (p + 1)
    by_type some el eu ev ec =
        let there : 0 < get_or placed p 0 = omega (arith, some) in
        let typed : ltb 0 (get_or placed p 0) ≡ true = lt-ltb 0 _ there in
        let out : rest p ≡ false = rw typed (and-false (X p)) in
        rw (el, eu, ev, ec)
        record {
          number_filled = omega (arith, k.number_filled, one_more 0 (bit_false (rest p) out));
          closes = not_closing (rw out);
          written = write given steps _ p number inside k.written (rw typed);
          used_written = write used₀ used _ p (get_or placed p 0) (omega arith) k.used_written (rw typed);
        }

    module _ (none : get_or placed p 0 ≡ 0) where
      untyped : ltb 0 (get_or placed p 0) ≡ false
      untyped = le-ltb 0 (get_or placed p 0) (omega arith)

      unused : Written used₀ used (type_after placed used₀) (p + 1)
      unused = keep used₀ used _ p k.used_written (rw untyped)

      -- it gets a position by merit
      pub by_merit_is : {l u : List ℕ} {v c : ℕ} {r : Bool} → filled < free → r ≡ considers_by offers steps code p → r ≡ true → l ≡ set steps p number → u ≡ used → v ≡ filled + 1 → c ≡ p + 1
          → Filled number code free offers placed given used₀ l u v c (p + 1)
      by_merit_is less test e el eu ev ec =
          let in-play : X p ≡ true = sym considered ∙ sym test ∙ e in
          let left : rest p ≡ true = rw (untyped, in-play) in
          let room : ltb (count_of p rest) free ≡ true = lt-ltb (count_of p rest) free (omega (arith, k.number_filled)) in
          rw (el, eu, ev, ec)
          record {
            number_filled = omega (arith, k.number_filled, one_more 1 (bit_true (rest p) left));
            closes = rw add-one (sym (last_in fills p (rw (left, room))));
            written = write given steps _ p number inside k.written (rw (untyped, in-play, room));
            used_written = unused;
          }

      -- it is not considered
      pub left_out : {l u : List ℕ} {v c : ℕ} {r : Bool} → r ≡ considers_by offers steps code p → r ≡ false → l ≡ steps → u ≡ used → v ≡ filled → c ≡ closing
          → Filled number code free offers placed given used₀ l u v c (p + 1)
      left_out test e el eu ev ec =
          let out : X p ≡ false = sym considered ∙ sym test ∙ e in
          let gone : rest p ≡ false = rw out in
          rw (el, eu, ev, ec)
          record {
            number_filled = omega (arith, k.number_filled, one_more 0 (bit_false (rest p) gone));
            closes = not_closing (rw gone);
            written = keep given steps _ p k.written (rw (untyped, out));
            used_written = unused;
          }

      -- no position is free
      pub no_room : {l u : List ℕ} {v c : ℕ} → free ≤ filled → l ≡ steps → u ≡ used → v ≡ filled → c ≡ closing → Filled number code free offers placed given used₀ l u v c (p + 1)
      no_room z el eu ev ec =
          let full : ltb (count_of p rest) free ≡ false = le-ltb (count_of p rest) free (omega (arith, k.number_filled)) in
          let nobody : seats_at placed X free p ≡ false = rw (untyped, full) (and-false (X p && true)) in
          rw (el, eu, ev, ec)
          record {
            number_filled = omega (arith, k.number_filled, one_more (bit (rest p)) refl);
            closes = not_closing (rw full (and-false (rest p)));
            written = keep given steps _ p k.written (sym (ap (λ (b : Bool). cond b number (get_or given p 0)) nobody));
            used_written = unused;
          }
