use Rattle.round.specs.Category.{code_of}
use Rattle.choice.proofs.Fills.{Filled}
use Rattle.choice.proofs.fill.fill.Given as goal

abbrev pub invariant-loop-p : goal.invariant-loop-p
invariant-loop-p l = Filled l.number (code_of l.category) l.free l.offers l.placed l.initial.steps l.initial.used l.steps l.used l.filled l.closing l.p
