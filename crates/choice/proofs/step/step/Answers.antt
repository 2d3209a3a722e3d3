-- `choice::step::step` meets its contract: filling starts from what taking for use leaves. Assumes nothing.
use Rattle.choice.proofs.Steps.{step_done}
use Rattle.choice.proofs.step.step.Goals as goal

pub returns : goal.returns
returns c =
    step_done c.args.number c.args.positions c.requires.places c.take_typed-count.ensures c.saturating_sub-free.ensures c.fill-merit.ensures
    c.saturating_sub-vacant.ensures
