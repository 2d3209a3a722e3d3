-- `reader::opened::Opened::step_category` meets its contract: by the body where institutes list their own steps, else by the number (proofs/Bodies.antt).
-- Assumes nothing.
use mathlib.Core.Path.{◌∙◌}
use native.Mathlib.Omega.{arith}
use Rattle.reader.proofs.Bodies.{six_fits, six_category, own_inside, own_category}
use Rattle.reader.proofs.opened.Opened.step_category.Goals as goal
use Rattle.reader.proofs.opened.Opened.step_category.Goals.{then-own_steps, else-own_steps}

pub code-code-requires : goal.code-code-requires
code-code-requires c =
    rw c.steps.ensures.head
    (own_inside c.args.self.now.hand c.requires.0 c.own_steps.ensures (rw c.steps.ensures.head at c.steps.ensures.steps) c.if-own_steps.true c.requires.1 c.requires.2)

pub overflow_cast-code : goal.overflow_cast-code
overflow_cast-code c =
    elim c.if-own_steps.branch [
      | then-own_steps w ↦ omega (arith, w.code-is, w.code-code.ensures.1)
      | else-own_steps w ↦ omega (arith, w.code-is, six_fits c.args.self.now.hand c.requires.0 c.own_steps.ensures w.if-own_steps.false c.requires.2)
    ]

pub returns : goal.returns
returns c =
    elim c.if-own_steps.branch [
      | then-own_steps w ↦
          own_category c.args.self.now.hand c.requires.0 c.own_steps.ensures (rw w.steps.ensures.head at w.steps.ensures.steps) w.if-own_steps.true c.from.ensures (w.code-is ∙ rw w.steps.ensures.head at w.code-code.ensures.0) c.requires.1 c.requires.2
      | else-own_steps w ↦ six_category c.args.self.now.hand c.requires.0 c.own_steps.ensures w.if-own_steps.false c.from.ensures w.code-is c.requires.1 c.requires.2
    ]
