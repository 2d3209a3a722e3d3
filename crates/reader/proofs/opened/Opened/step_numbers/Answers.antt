-- `reader::opened::Opened::step_numbers` meets its contract: those of the body where institutes list their own steps, else six (proofs/Bodies.antt).
-- Assumes nothing.
use Rattle.reader.proofs.Bodies.{six_numbers, own_numbers}
use Rattle.reader.proofs.opened.Opened.step_numbers.Goals as goal

pub returns-then-own_steps : goal.returns-then-own_steps
returns-then-own_steps c =
    own_numbers c.args.self.now.hand c.requires c.own_steps.ensures (rw c.steps.ensures.head at c.steps.ensures.steps) c.if-own_steps.true (rw c.steps.ensures.head at c.count.ensures)

pub returns-else-own_steps : goal.returns-else-own_steps
returns-else-own_steps c = six_numbers c.args.self.now.hand c.requires c.own_steps.ensures c.if-own_steps.false
