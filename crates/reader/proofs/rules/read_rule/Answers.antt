-- `reader::rules::read_rule` meets its contract: the reserved positions are read one after the other. Assumes nothing.
use native.Mathlib.Omega.{arith}
use borrow.Author.Rules.{rules}
use Rattle.reader.proofs.RuleTables.{rule_read}
use Rattle.reader.proofs.rules.read_rule.Goals as goal

pub returns : goal.returns
returns c =
    rw (c.from-rule.ensures)
    (rule_read _ _ _ c.loop-t.t c.loop-t.own-items _ (search rules) (omega arith) c.loop-t.invariant
    c.code.ensures.0 c.receiver-rule.ensures c.positions-rule.ensures.0 c.positions-rule.ensures.1)
