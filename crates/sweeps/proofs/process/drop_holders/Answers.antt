-- `sweeps::process::drop_holders` meets its contract: whoever was passed and has no step has no holder. Assumes nothing.
use Rattle.std.proofs.Common.{arith}
use Rattle.lists.proofs.Written.{tabulated}
use Rattle.sweeps.proofs.process.drop_holders.Goals as goal

pub returns : goal.returns
returns c = rw (← c.requires) (tabulated _ _ _ _ c.loop-i.invariant (omega arith))
