use Prim.Native.Nat.{◌<◌}
use Rattle.types.proofs.LowerFront.{Lowers}
use Rattle.types.proofs.first.lower.Given as goal

abbrev pub invariant-loop-t : goal.invariant-loop-t
invariant-loop-t l = record { small : l.last < 8; lowers : Lowers l.room l.fn.marks l.initial.placed l.left l.marks l.placed l.exhausted l.t }
