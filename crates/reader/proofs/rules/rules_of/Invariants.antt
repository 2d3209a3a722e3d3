use Rattle.questions.specs.Read.{as_head}
use Rattle.reader.proofs.RuleTables.{RulesTo}
use Rattle.reader.proofs.rules.rules_of.Given as goal

abbrev pub invariant-loop-k : goal.invariant-loop-k
invariant-loop-k l = RulesTo (as_head l.steps.head) l.steps.body.now l.k l.rule-items
