-- `reader::rules::rules_of` meets its contract: the loop puts the rules of the steps, and under policy 1 that of step 6 follows them.
-- Assumes nothing.
use native.Mathlib.Omega.{arith}
use lib.Seq.{length_front}
use borrow.Author.Rules.{rules}
use borrow.Author.Tests.{ne_eqb}
use Rattle.reader.proofs.RuleTables.{body_rules, six_rules}
use Rattle.reader.proofs.rules.rules_of.Goals as goal

pub returns-then-steps-eq1-clause-rules : goal.returns-then-steps-eq1-clause-rules
returns-then-steps-eq1-clause-rules c =
    let room = length_front c.args.table.now c.loop-k.rule-items c.count-count.result c.loop-k.auto.rule-items in
    six_rules c.requires.lawful_steps c.loop-k.k c.loop-k.rule-items _ (search rules) (omega arith) c.loop-k.invariant (omega (arith, room)) c.if-steps-eq1.true

pub returns-else-steps-eq1-clause-count : goal.returns-else-steps-eq1-clause-count
returns-else-steps-eq1-clause-count c = omega (arith, c.count-count.ensures, c.requires.lawful_steps.long.steps_most)

pub returns-else-steps-eq1-clause-rules : goal.returns-else-steps-eq1-clause-rules
returns-else-steps-eq1-clause-rules c =
    body_rules c.requires.lawful_steps c.loop-k.k c.loop-k.rule-items _ (search rules) (omega arith) c.loop-k.invariant c.count-count.ensures (ne_eqb _ _ c.if-steps-eq1.false)
