-- `types::first::lower_at` meets its contract. Assumes nothing.
use native.Mathlib.Omega.{arith}
use Rattle.types.proofs.LowerFrom.{front_small, lowering, some_type, type_there, position_there, lowered_from}
use Rattle.types.proofs.first.lower_at.Goals as goal

pub reopen-requires : goal.reopen-requires
reopen-requires c = (c.requires.types, omega (arith, front_small c.requires))

pub lower-requires : goal.lower-requires
lower-requires c = lowering c.requires c.reopen.ensures (omega (arith, c.requires.some)) c.reopen.auto.exhausted

pub overflow_sub-room : goal.overflow_sub-room
overflow_sub-room c = omega (arith, some_type c.requires c.lower.ensures)

pub bounds-room-from : goal.bounds-room-from
bounds-room-from c = omega (arith, type_there c.requires c.lower.ensures)

pub overflow_sub-room-2 : goal.overflow_sub-room-2
overflow_sub-room-2 c = omega (arith, position_there c.requires c.lower.ensures c.from-2.result (omega arith))

pub bounds-room-from-2 : goal.bounds-room-from-2
bounds-room-from-2 c = omega (arith, type_there c.requires c.lower.ensures)

pub returns : goal.returns
returns c = lowered_from c.requires c.lower.ensures c.from-2.result (omega arith)
