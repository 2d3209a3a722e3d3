-- An institute's choice from a set of offers (document 01, "One institute chooses"; document 02, Point 7).
use Rattle.std.specs.Prelude.{ℕ, suc, ◌+◌, ◌-◌, Bool, cond, ◌&&◌, List, [], ◌∷◌, eqb, length, get_or, replicate}
use Rattle.round.specs.declared.entry.Category.{Category}
use Rattle.round.specs.Round.{StepRule}
use Rattle.lists.specs.Lists.{tabulate, count_of}
use Rattle.choice.specs.Step.{taken}

-- what the steps done so far leave
pub record Progress : Type 0 where
  -- the step of each place, 0 for none
  pub given : List ℕ
  -- the vacant positions handed to each step, by its number; what is handed to 0 goes to no step
  pub handed : ℕ → ℕ

-- marks has the marks at each place; offered says which places offer their entry of a category
module _ (marks : List ℕ) (offered : ℕ → Category → Bool) where
  -- the step considers those who offer an entry of its category and have no step yet; an open step considers every holder of an open entry
  unfoldable pub considers : StepRule → Progress → ℕ → Bool
  considers rule done p = offered p rule.category && eqb (get_or done.given p 0) 0

  -- the positions of step k: its own and those handed to it
  unfoldable pub positions_at : ℕ → StepRule → Progress → ℕ
  positions_at k rule done = rule.own + done.handed k

  -- whom step k takes
  unfoldable pub taken_at : ℕ → StepRule → Progress → ℕ → Bool
  taken_at k rule done = taken rule.reserved marks (considers rule done) (positions_at k rule done)

  -- the positions that step k leaves vacant
  unfoldable pub vacant_at : ℕ → StepRule → Progress → ℕ
  vacant_at k rule done = positions_at k rule done - count_of (length marks) (taken_at k rule done)

  -- step k is done too
  unfoldable pub advance : ℕ → StepRule → Progress → Progress
  advance k rule done = record {
    given = tabulate (length marks) (λ p. cond (taken_at k rule done p) k (get_or done.given p 0));
    handed = λ j. done.handed j + cond (eqb j rule.receiver) (vacant_at k rule done) 0;
  }

  -- the steps of these rules are done too, numbered from k
  unfoldable pub advance_all : ℕ → List StepRule → Progress → Progress
  advance_all k [] done = done
  advance_all k (rule ∷ rules) done = advance_all (suc k) rules (advance k rule done)

  unfoldable pub nothing_done : Progress
  nothing_done = record { given = replicate (length marks) 0; handed = λ j. 0 }

  -- the step at which each place is taken, 0 for none
  unfoldable pub choose : List StepRule → List ℕ
  choose rules = (advance_all 1 rules nothing_done).given
