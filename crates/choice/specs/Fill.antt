-- The places that a step gives its number to, by the types given on the way down and the positions left (document 01, "One
-- institute chooses": "Then fill the remaining positions by merit with those left, marked or not."), and the types of those taken for use;
-- the numbers of a step.
use Rattle.std.specs.Prelude.{ℕ, ◌-◌, Bool, cond, not, ◌&&◌, ◌||◌, List, ltb, length, get_or}
use Rattle.lists.specs.Lists.{tabulate, count_of, last_of}
use Rattle.choice.specs.declared.step.Numbers.{Numbers}
use Rattle.matching.specs.ForUse.{taken_for_use}
use Rattle.choice.specs.Step.{taken_by_merit, taken}
use Rattle.matching.specs.FirstPlacing.{types_of}
use Rattle.matching.specs.Use.{typed_at}

-- considered, and given no type
abbrev pub rest_at : List ℕ → (ℕ → Bool) → ℕ → Bool
rest_at placed considered p = considered p && not (typed_at placed p)

-- the better ones of the rest leave a position
abbrev pub fills_at : List ℕ → (ℕ → Bool) → ℕ → ℕ → Bool
fills_at placed considered free p = rest_at placed considered p && ltb (count_of p (rest_at placed considered)) free

abbrev pub seats_at : List ℕ → (ℕ → Bool) → ℕ → ℕ → Bool
seats_at placed considered free p = typed_at placed p || fills_at placed considered free p

-- the list with this number at the places of the set
abbrev pub numbered : ℕ → ℕ → (ℕ → Bool) → List ℕ → List ℕ
numbered n number X given = tabulate n (λ p. cond (X p) number (get_or given p 0))

-- the list with these types at the places of the set
abbrev pub typed : ℕ → List ℕ → (ℕ → Bool) → List ℕ → List ℕ
typed n types X used = tabulate n (λ p. cond (X p) (get_or types p 0) (get_or used p 0))

-- the steps after one step, the positions that it leaves vacant, and the types used
abbrev pub step_given : ℕ → List ℕ → List ℕ → (ℕ → Bool) → ℕ → List ℕ → List ℕ
step_given number reserved marks considered positions given =
    numbered (length marks) number (taken reserved marks considered positions) given

abbrev pub step_vacant : List ℕ → List ℕ → (ℕ → Bool) → ℕ → ℕ
step_vacant reserved marks considered positions = positions - count_of (length marks) (taken reserved marks considered positions)

abbrev pub step_types : List ℕ → List ℕ → (ℕ → Bool) → List ℕ → List ℕ
step_types reserved marks considered used =
    let X : ℕ → Bool = taken_for_use reserved marks considered in
    typed (length marks) (types_of reserved marks X) X used

-- the numbers of a step with these positions
abbrev pub step_numbers : List ℕ → List ℕ → (ℕ → Bool) → ℕ → Numbers
step_numbers reserved marks considered positions = record {
  positions = positions;
  used = count_of (length marks) (taken_for_use reserved marks considered);
  merit = count_of (length marks) (taken_by_merit reserved marks considered positions);
  vacant = step_vacant reserved marks considered positions;
  closing = last_of (length marks) (taken_by_merit reserved marks considered positions);
}
