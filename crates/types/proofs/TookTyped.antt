-- The types of those whom a step takes for use, and that nobody has one where nobody is taken.
use Prim.Native.Nat.{ℕ, ◌<◌}
use mathlib.Core.Path.{◌≡◌, refl, sym, ◌∙◌}
use mathlib.Core.Bool.{Bool, false}
use mathlib.Core.List.{List}
use native.Mathlib.Omega.{arith}
use lib.ListN.{length, get_or}
use lib.Seq.{ext_get_or}
use borrow.Author.Tests.{ltb-false}
use Rattle.matching.specs.ForUse.{taken_for_use}
use Rattle.placing.specs.Taken.{Took}
use Rattle.types.specs.Lowered.{PlacedFirst, TookTyped}
use Rattle.lists.proofs.Counting.{clash}
use Rattle.lists.proofs.Sets.{same_by_count}
use Rattle.matching.proofs.Types.{types_length, types_cong, types_none}

-- the types of those taken for use, the first ones where they are asked for
pub took_typed : {first : Bool} {reserved left marks placed types : List ℕ} {X : ℕ → Bool} {took count : ℕ} → Took reserved left marks placed X took → PlacedFirst first reserved marks placed types → count ≡ took
    → TookTyped first reserved marks types X count
took_typed {reserved = reserved} {marks = marks} k f e = record {
  each = λ q l. k.each q l ∙ sym (f.same q);
  number = e ∙ k.number;
  types = λ t. f.types t ∙ types_cong reserved marks _ _ (λ q l. sym (k.each q l));
}

-- where nobody is taken for use nobody has a type, and that is the first placing
pub took_nobody : {first : Bool} {reserved left marks placed : List ℕ} {X : ℕ → Bool} {took : ℕ} → Took reserved left marks placed X took → took ≡ 0
    → TookTyped first reserved marks placed X 0
took_nobody {reserved = reserved} {marks = marks} {placed = placed} {X = X} k e = record {
  each = k.each;
  number = sym e ∙ k.number;
  types = λ t.
      ext_get_or 0 _ _ (k.placing.each ∙ sym (types_length reserved marks H))
      (λ p l.
      let b : p < length marks = omega (arith, k.placing.each) in
      let none : H p ≡ false = nobody p b in
      omega (arith, ltb-false 0 (get_or placed p 0) (sym (k.each p b) ∙ none), types_none reserved marks H p none));
}
  where
    H : ℕ → Bool
    H = taken_for_use reserved marks X

    nobody : (p : ℕ) → p < length marks → H p ≡ false
    nobody p l = sym (same_by_count (length marks) (λ q. false) H (λ q b f. clash f refl) (omega (arith, k.number, e)) p l)
