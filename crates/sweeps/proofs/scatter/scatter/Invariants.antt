use Rattle.std.proofs.Common.{length, get_or}
use Rattle.sweeps.specs.Sweeps.{Scattered}
use Rattle.sweeps.proofs.scatter.scatter.Given as goal

abbrev pub invariant-loop-c : goal.invariant-loop-c
invariant-loop-c l = Scattered l.who (λ q. get_or l.chosen q 0) (length l.yielded) l.initial.steps l.steps
