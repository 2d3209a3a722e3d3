-- `types::first::take_typed` meets its contract: the types are those of the places that taking for use has placed. Assumes nothing.
use native.Mathlib.Omega.{arith}
use lib.ListN.{length}
use Rattle.placing.proofs.PositionsLeft.{nobody_placed}
use Rattle.types.proofs.TookTyped.{took_typed, took_nobody}
use Rattle.types.proofs.first.take_typed.Goals as goal

pub take_for_use-count-requires-clause-left : goal.take_for_use-count-requires-clause-left
take_for_use-count-requires-clause-left c = nobody_placed _ _ _ (length c.args.marks.now) (omega arith) c.positions_of-left.ensures.1 c.requires.4

pub returns-then-count-eq0 : goal.returns-then-count-eq0
returns-then-count-eq0 c = search took_nobody

pub returns : goal.returns
returns c = search took_typed
