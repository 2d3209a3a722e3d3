use Rattle.placing.specs.Taken.{Without}
use Rattle.placing.proofs.take.without_positions.Given as goal

abbrev pub invariant-loop-t : goal.invariant-loop-t
invariant-loop-t l = Without l.reserved l.exhausted
