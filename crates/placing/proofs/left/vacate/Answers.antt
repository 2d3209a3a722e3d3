-- `placing::left::vacate` meets its contract. Assumes nothing.
use Prim.Native.Nat.{◌-◌}
use native.Mathlib.Omega.{arith}
use Rattle.placing.proofs.left.vacate.Goals as goal

pub bounds-left-had : goal.bounds-left-had
bounds-left-had c = (c.requires.counted (c.from-had.result - 1) (omega arith)).0
