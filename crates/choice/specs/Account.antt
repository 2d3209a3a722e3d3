-- The account of an institute's choice: what each step did, as it was done (document 01, "One institute chooses"; document 02, Points 1, 3
-- and 7).
use Rattle.std.specs.Prelude.{ℕ, suc, ◌-◌, ◌≡◌, Bool, false, cond, ◌||◌, List, [], ◌∷◌, length, get_or}
use Rattle.round.specs.declared.entry.Category.{Category}
use Rattle.round.specs.Round.{StepRule}
use Rattle.lists.specs.Lists.{tabulate, greatest_of}
use Rattle.matching.specs.ForUse.{taken_for_use}
use Rattle.choice.specs.Step.{taken_by_merit}
use Rattle.lists.specs.Gathers.{gathered}
use Rattle.matching.specs.FirstPlacing.{Smallest, types_of}
use Rattle.choice.specs.Choice.{Progress, considers, positions_at, vacant_at, advance, nothing_done}

-- what one step did
pub record StepAccount : Type 0 where
  -- its positions, handed ones included
  pub positions : ℕ
  -- of each place, from 0, whether the step took it for raising the use, and whether in its fill by merit
  pub for_use : List Bool
  pub by_merit : List Bool
  -- of each place the type, from 1, that it used for the candidate there, by the first placing of those taken for raising the use; 0 for the others
  pub types : List ℕ
  -- the positions that it left vacant, handed on or not
  pub vacant : ℕ

abbrev pub took_for_use : StepAccount → ℕ → Bool
took_for_use step p = get_or step.for_use p false

abbrev pub took_by_merit : StepAccount → ℕ → Bool
took_by_merit step p = get_or step.by_merit p false

abbrev pub type_used : StepAccount → ℕ → ℕ
type_used step p = get_or step.types p 0

-- the steps of an account have numbers from 1, and 0 is never asked for; beyond the last stands one that did nothing
abbrev pub account_of : List StepAccount → ℕ → StepAccount
account_of steps k = get_or steps (k - 1) (record { positions = 0; for_use = []; by_merit = []; types = []; vacant = 0 })

module _ (marks : List ℕ) (offered : ℕ → Category → Bool) where
  -- step k, from the state before it
  unfoldable pub account_at : ℕ → StepRule → Progress → StepAccount
  account_at k rule done = record {
    positions = positions_at marks offered k rule done;
    for_use = tabulate (length marks) (taken_for_use rule.reserved marks (considers marks offered rule done));
    by_merit = tabulate (length marks)
        (taken_by_merit rule.reserved marks (considers marks offered rule done) (positions_at marks offered k rule done));
    types = types_of rule.reserved marks (taken_for_use rule.reserved marks (considers marks offered rule done));
    vacant = vacant_at marks offered k rule done;
  }

  -- the steps of these rules, numbered from k
  unfoldable pub account_from : ℕ → List StepRule → Progress → List StepAccount
  account_from k [] done = []
  account_from k (rule ∷ rules) done = account_at k rule done ∷ account_from (suc k) rules (advance marks offered k rule done)

  -- the account of the choice
  unfoldable pub account : List StepRule → List StepAccount
  account rules = account_from 1 rules (nothing_done marks offered)

-- document 02's closing place (Point 1): the largest place, from 1, among those whom the step seated in its fill by merit, 0 if nobody
unfoldable pub closing_place : StepAccount → ℕ
closing_place step = greatest_of (length step.by_merit) (λ p. cond (took_by_merit step p) (suc p) 0)

-- some step took place p for use
unfoldable pub used_in : List StepAccount → ℕ → Bool
used_in [] p = false
used_in (step ∷ steps) p = took_for_use step p || used_in steps p

-- the type, from 1, that the first step used for place p that took it for use, by law the only one; 0 where none did
unfoldable pub type_in : List StepAccount → ℕ → ℕ
type_in [] p = 0
type_in (step ∷ steps) p = cond (took_for_use step p) (type_used step p) (type_in steps p)

-- the types of n places
unfoldable pub types_in : ℕ → List StepAccount → List ℕ
types_in n steps = tabulate n (type_in steps)

-- down the merit list, those whom by its account a step took for use have the smallest of all placings that place them all; the others have
-- no type
pub record TypesFirst (reserved marks : List ℕ) (step : StepAccount) : Type 0 where
  pub first :
      Smallest reserved (gathered (took_for_use step) (length marks) (λ p. get_or marks p 0)) (gathered (took_for_use step) (length marks) (type_used step))
  pub others : (p : ℕ) → took_for_use step p ≡ false → type_used step p ≡ 0
