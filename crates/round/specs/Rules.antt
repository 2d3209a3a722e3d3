-- The rules of an institute's steps, as the code keeps them.
use Rattle.std.specs.Prelude.{ℕ, ◌≤◌, List, length, map, take, All}
use Rattle.round.specs.declared.rule.Rule.{Rule}
use Rattle.round.specs.Round.{StepRule}

-- what a rule stands for in a round with so many types
abbrev pub rule_of : ℕ → Rule → StepRule
rule_of types rule =
    record { category = rule.category; own = rule.positions; reserved = take types rule.reserved; receiver = rule.receiver }

abbrev pub rules_in : ℕ → List Rule → List StepRule
rules_in types rules = map (rule_of types) rules

-- at most 12 rules, each with a step number and a number of two bytes
pub record RuleTable (types : ℕ) (rules : List Rule) : Type 0 where
  pub types_most : types ≤ 8
  pub steps_most : length rules ≤ 12
  pub handed_on : All (λ rule. rule.receiver ≤ 12) rules
  pub own_most : All (λ rule. rule.positions ≤ 65535) rules
