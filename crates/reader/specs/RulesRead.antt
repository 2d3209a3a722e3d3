-- The rules of an institute's body, by which its choice goes.
use Rattle.std.specs.Prelude.{ℕ, ◌≤◌, ◌≡◌, List}
use Rattle.round.specs.declared.rule.Rule.{Rule}
use Rattle.questions.specs.Records.{Head}
use Rattle.round.specs.Rules.{rule_of, rules_in, RuleTable}
use Rattle.questions.specs.Reading.{step_in, steps_in}

-- the rule of step k, from 0, with own positions of two bytes
pub record RuleRead (h : Head) (body : List ℕ) (k : ℕ) (rule : Rule) : Type 0 where
  pub rule_is : rule_of h.types rule ≡ step_in h body k
  pub own_most : rule.positions ≤ 65535

-- the rules are those of the steps of an institute's body
pub record RulesRead (h : Head) (body : List ℕ) (rules : List Rule) : Type 0 where
  pub table_of : RuleTable h.types rules
  pub rules_of : rules_in h.types rules ≡ steps_in h body
