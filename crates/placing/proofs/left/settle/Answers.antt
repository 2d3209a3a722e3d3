-- `placing::left::settle` meets its contract. Assumes nothing.
use Rattle.placing.proofs.PositionsLeft.{taken_from_lem, come_to}
use Rattle.placing.proofs.left.settle.Goals as goal

pub returns : goal.returns
returns c = (taken_from_lem _ _ _ c.vacate.ensures.0, come_to _ c.args.placed.now _ _ c.vacate.ensures.1)
