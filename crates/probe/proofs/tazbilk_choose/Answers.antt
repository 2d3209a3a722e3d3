-- `probe::tazbilk_choose` meets its contract: where body and lengths fit the steps and types are those of the choice, and else they stay.
-- Assumes nothing.
use Rattle.std.proofs.Common.{rules}
use Rattle.probe.proofs.Fitting.{lawful}
use Rattle.probe.proofs.tazbilk_choose.Goals as goal

pub rules_of-count-requires-clause-lawful_steps : goal.rules_of-count-requires-clause-lawful_steps
rules_of-count-requires-clause-lawful_steps c = lawful _ _ _ c.head_with-head.ensures c.body_fits.ensures (search rules)
