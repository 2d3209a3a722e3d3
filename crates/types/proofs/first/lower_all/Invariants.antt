use lib.ListN.{take}
use Rattle.types.proofs.LowerDown.{LoweredTo}
use Rattle.types.proofs.first.lower_all.Given as goal

abbrev pub invariant-loop-p : goal.invariant-loop-p
invariant-loop-p l = LoweredTo l.reserved l.marks l.fn.placed (take l.types l.room) l.left (take l.n l.held) l.placed l.exhausted l.p
