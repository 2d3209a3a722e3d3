-- The taking rule of a step, and its laws: whom of those considered it takes for its reserved positions, under which types, how many at most, and
-- what its laws ask of the marks. Document 01's rule, one position for each candidate taken, is the only one, and asks nothing.
use Prim.Native.Nat.{ℕ, ◌≤◌, ◌<◌}
use mathlib.Core.Path.{◌≡◌, refl}
use mathlib.Core.Bool.{Bool, true, false, not, ◌&&◌, ◌||◌}
use mathlib.Core.List.{List, [], ◌∷◌}
use lib.ListN.{length, get_or}
use Rattle.lists.specs.Lists.{list_sum}
use Rattle.round.specs.Round.{StepRule}
use Rattle.choice.specs.Step.{remaining, taken_by_merit, taken}
use Rattle.matching.specs.ForUse.{taken_for_use}
use Rattle.matching.specs.FirstPlacing.{types_of}
use Rattle.matching.proofs.TakingRule.{TakingRule}
use Rattle.matching.proofs.Taking.{taking_for_use, taken_for_use_within}
use Rattle.matching.proofs.Types.{types_none, types_cong}

unfoldable pub takes : StepRule → List ℕ → (ℕ → Bool) → ℕ → Bool
takes rule marks = taken_for_use rule.reserved marks

-- of each place the type, from 1, under which the rule takes it; 0 for the others
unfoldable pub types_taken : StepRule → List ℕ → (ℕ → Bool) → List ℕ
types_taken rule marks considered = types_of rule.reserved marks (takes rule marks considered)

unfoldable pub takes_most : StepRule → ℕ
takes_most rule = list_sum rule.reserved

unfoldable pub MarksFit : StepRule → List ℕ → Type 0
MarksFit rule marks = Unit {0}

-- a step takes by its rule at most its own positions, from marks that fit
pub record LawfulStep (marks : List ℕ) (rule : StepRule) : Type 0 where
  pub own : takes_most rule ≤ rule.own
  pub fit : MarksFit rule marks

abbrev pub LawfulFor : List ℕ → List StepRule → Type 0
LawfulFor marks [] = Unit {0}
LawfulFor marks (rule ∷ rules) = LawfulStep marks rule × LawfulFor marks rules

-- one-to-one counting asks that the reserved positions are within the step's own
pub one_to_one : (marks : List ℕ) (rule : StepRule) → list_sum rule.reserved ≤ rule.own → LawfulStep marks rule
unfolding takes_most MarksFit
one_to_one marks rule few = record { own = few; fit = tt }

-- whoever is taken is considered
pub taken_considered : (reserved marks : List ℕ) (X : ℕ → Bool) (q p : ℕ) → taken reserved marks X q p ≡ true → X p ≡ true
unfolding taken taken_by_merit remaining
taken_considered reserved marks X q p = either (taken_for_use reserved marks X p) (X p) _ (taken_for_use_within reserved marks X p)
  where
    either : (h x t : Bool) → (h ≡ true → x ≡ true) → (h || ((x && not h) && t)) ≡ true → x ≡ true
    either true x t s e = s e
    either false true t s e = refl
    either false false t s e = e

module _ (rule : StepRule) (marks : List ℕ) where
  pub taking_rule : MarksFit rule marks → TakingRule (length marks) (takes_most rule) (takes rule marks)
  unfolding takes takes_most
  taking_rule fit = taking_for_use rule.reserved marks

  -- whoever the rule does not take has no type
  pub untaken_untyped : (X : ℕ → Bool) (p : ℕ) → takes rule marks X p ≡ false → get_or (types_taken rule marks X) p 0 ≡ 0
  unfolding types_taken
  untaken_untyped X p = types_none rule.reserved marks (takes rule marks X) p

  -- where the same are taken the types are the same
  pub types_taken_same : (X Y : ℕ → Bool) → ((p : ℕ) → p < length marks → takes rule marks X p ≡ takes rule marks Y p) → types_taken rule marks X ≡ types_taken rule marks Y
  unfolding types_taken
  types_taken_same X Y = types_cong rule.reserved marks (takes rule marks X) (takes rule marks Y)
