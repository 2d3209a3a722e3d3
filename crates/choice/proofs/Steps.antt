-- One step: the places with a type and the rest that fill are those that the step takes.
use Prim.Native.Nat.{ℕ, zero, suc, ◌+◌, ◌-◌, ◌≤◌, ◌<◌, min}
use mathlib.Core.Path.{◌≡◌, refl, sym, ap, ◌∙◌}
use mathlib.Core.Bool.{Bool, true, false, cond, not, ◌&&◌, ◌||◌}
use mathlib.Core.List.{List, ◌++◌}
use native.Mathlib.Omega.{arith}
use lib.Dec.{ltb}
use lib.ListN.{length, get_or, take, drop, replicate, length-replicate}
use lib.Seq.{take_at, length-take-le, length_front}
use Rattle.std.proofs.lemmas.List.{take-replicate}
use borrow.Author.Tests.{lt-ltb, le-ltb}
use Rattle.lists.specs.Lists.{count_of, bit}
use Rattle.matching.specs.ForUse.{taken_for_use}
use Rattle.choice.specs.Step.{remaining, taken_by_merit, taken}
use Rattle.placing.specs.Offers.{Places}
use Rattle.types.specs.Lowered.{TookTyped}
use Rattle.matching.specs.Use.{typed_at}
use Rattle.choice.specs.declared.step.Numbers.{Numbers}
use Rattle.choice.specs.Fill.{rest_at, fills_at, seats_at, numbered, typed, step_given, step_vacant, step_types, step_numbers}
use Rattle.lists.specs.Lists.{last_of}
use Rattle.lists.proofs.Counting.{less_or, count_ext}
use Rattle.lists.proofs.Sets.{count_best}
use Rattle.lists.proofs.Last.{last_ext}
use Rattle.lists.proofs.Tabulate.{tabulate_cong}

-- a list of zeros has its length
pub sized : (n : ℕ) {l : List ℕ} → l ≡ replicate n zero → length l ≡ n
sized n e = ap length e ∙ length-replicate n zero

-- the front of a list, after it was lent and has come back
pub front_back : (d e : List ℕ) (n : ℕ) → n ≤ length d → length e ≡ length (take n d) → take n (e ++ drop n d) ≡ e
front_back d e n h len = take_at e (drop n d) n (len ∙ length-take-le n d h)

-- a table of zeros with more than n, before its front is lent and when it has come back
module _ {n : ℕ} {table : List ℕ} (few : n ≤ 512) (zeros : table ≡ replicate 512 0) where
  pub room : n ≤ length table
  room = omega (arith, sized 512 zeros)

  pub front_each : length (take n table) ≡ n
  front_each = length-take-le n table room

  pub front_zero : take n table ≡ replicate n 0
  front_zero = ap (take n) zeros ∙ take-replicate n 512 0 few

  module _ (front : List ℕ) (kept : length front ≡ length (take n table)) where
    pub room_back : n ≤ length (front ++ drop n table)
    room_back = omega (arith, length_front table front n kept, room)

    pub types_back : take n (front ++ drop n table) ≡ front
    types_back = front_back table front n room kept

    pub each_back : (m : ℕ) → m ≡ n → length (take n (front ++ drop n table)) ≡ m
    each_back m e = ap length types_back ∙ kept ∙ front_each ∙ sym e

-- the numbers of a step
abbrev numbers : ℕ → ℕ → ℕ → ℕ → ℕ → Numbers
numbers positions used merit vacant closing =
    record { positions = positions; used = used; merit = merit; vacant = vacant; closing = closing }

numbered_same : (n number : ℕ) (X Y : ℕ → Bool) (given : List ℕ) → ((q : ℕ) → q < n → X q ≡ Y q) → numbered n number X given ≡ numbered n number Y given
numbered_same n number X Y given h =
    tabulate_cong n _ _ (λ q l. ap (λ (b : Bool). cond b number (get_or given q 0)) (h q l))

typed_same : (n : ℕ) (types types' : List ℕ) (X Y : ℕ → Bool) (used : List ℕ) → ((q : ℕ) → q < n → X q ≡ Y q) → types ≡ types' → typed n types X used ≡ typed n types' Y used
typed_same n types types' X Y used h e = tabulate_cong n _ _ (λ q l. rw (h q l, e))

-- a position is left after h and k
left_test : (h k positions : ℕ) → ltb k (positions - h) ≡ ltb (h + k) positions
left_test h k positions =
    less_or (h + k) positions (λ l. lt-ltb k (positions - h) (omega arith) ∙ sym (lt-ltb (h + k) positions l))
    (λ l. le-ltb k (positions - h) (omega arith) ∙ sym (le-ltb (h + k) positions l))

count_sum : (n : ℕ) (A B C : ℕ → Bool) → ((p : ℕ) → bit (A p) ≡ bit (B p) + bit (C p)) → count_of n A ≡ count_of n B + count_of n C
count_sum zero A B C h = refl
count_sum (suc n) A B C h = omega (arith, h n, count_sum n A B C h)

module _ (first : Bool) (reserved marks placed : List ℕ) (X : ℕ → Bool) (positions used : ℕ) (k : TookTyped first reserved marks placed X used) where
  abbrev H : ℕ → Bool
  H = taken_for_use reserved marks X

  abbrev n : ℕ
  n = length marks

  rest_same : (q : ℕ) → q < n → rest_at placed X q ≡ remaining reserved marks X q
  rest_same q l = unfold remaining in ap (λ (b : Bool). X q && not b) (sym (k.each q l))

  fills_same : (p : ℕ) → p < n → fills_at placed X (positions - used) p ≡ taken_by_merit reserved marks X positions p
  fills_same p l =
      unfold taken_by_merit in
      rw (
        rest_same p l,
        count_ext p (rest_at placed X) (remaining reserved marks X) (λ q b. rest_same q (omega arith)),
        k.number,
        left_test (count_of n H) (count_of p (remaining reserved marks X)) positions,
      )

  seats_same : (p : ℕ) → p < n → seats_at placed X (positions - used) p ≡ taken reserved marks X positions p
  seats_same p l = unfold taken in rw (fills_same p l, sym (k.each p l))

  split : (p : ℕ) → bit (taken reserved marks X positions p) ≡ bit (H p) + bit (taken_by_merit reserved marks X positions p)
  split p = unfold taken taken_by_merit remaining in apart (H p) (X p) _
    where
      apart : (a x l : Bool) → bit (a || ((x && not a) && l)) ≡ bit a + bit ((x && not a) && l)
      apart true true l = refl
      apart true false l = refl
      apart false x l = omega arith

  filled_same : (free filled : ℕ) → free ≡ positions - used → filled ≡ min free (count_of n (rest_at placed X)) → filled ≡ count_of n (taken_by_merit reserved marks X positions)
  unfolding taken_by_merit
  filled_same free filled f e =
      omega (arith, k.number, count_ext n (rest_at placed X) (remaining reserved marks X) rest_same, count_best n (remaining reserved marks X) (count_of n H) positions)

  -- the numbers of the step
  numbers_same : (free filled vacant closing : ℕ) → free ≡ positions - used → filled ≡ min free (count_of n (rest_at placed X)) → vacant ≡ free - filled
      → closing ≡ last_of n (fills_at placed X free)
      → numbers positions used filled vacant closing ≡ step_numbers reserved marks X positions
  numbers_same free filled vacant closing f e v c =
      let merit : filled ≡ count_of n (taken_by_merit reserved marks X positions) = filled_same free filled f e in
      let left : vacant ≡ step_vacant reserved marks X positions =
      omega (arith, k.number, count_sum n (taken reserved marks X positions) H (taken_by_merit reserved marks X positions) split) in
      let last : closing ≡ last_of n (taken_by_merit reserved marks X positions) = (rw f at c) ∙ last_ext n _ _ fills_same in
      rw (k.number, merit, left, last)

-- what filling says of the types and the positions left is what the step says
pub step_done : {reserved marks offers types given steps used₀ used : List ℕ} {X : ℕ → Bool} {first : Bool} (number positions : ℕ) {took free filled vacant closing : ℕ}
    → Places marks offers given used₀ → TookTyped first reserved marks types X took → free ≡ positions - took
    → (steps ≡ numbered (length given) number (seats_at types X free) given) × (filled ≡ min free (count_of (length given) (rest_at types X)))
    × (used ≡ typed (length given) types (typed_at types) used₀) × (closing ≡ last_of (length given) (fills_at types X free)) → vacant ≡ free - filled
    → (steps ≡ step_given number reserved marks X positions given) × (numbers positions took filled vacant closing ≡ step_numbers reserved marks X positions)
    × (first ≡ true → used ≡ step_types reserved marks X used₀)
step_done {reserved} {marks} {types = types} {given = given} {used₀ = used₀} {X = X} {first} number positions {took} {free} {filled} {vacant} {closing} p k left s v = (
  rw (p.steps_each, left) at s.0 ∙ numbered_same (length marks) number _ _ given (seats_same first reserved marks types X positions took k),
  numbers_same first reserved marks types X positions took k free filled vacant closing left (rw p.steps_each at s.1) v
      (rw p.steps_each at s.3),
  λ t. rw p.steps_each at s.2 ∙ typed_same (length marks) types _ _ _ used₀ (λ q l. sym (k.each q l)) (k.types t),
)
