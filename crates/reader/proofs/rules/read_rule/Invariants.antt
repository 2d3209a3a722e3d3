use Rattle.questions.specs.Steps.{reserved_in}
use Rattle.questions.specs.Read.{as_head}
use Rattle.reader.proofs.RuleTables.{ReservedTo}
use Rattle.reader.proofs.rules.read_rule.Given as goal

abbrev pub invariant-loop-t : goal.invariant-loop-t
invariant-loop-t l = ReservedTo (reserved_in (as_head l.steps.head) l.steps.body.now l.k) l.t l.own-items
