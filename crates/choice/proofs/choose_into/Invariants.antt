use mathlib.Core.Path.{◌≡◌}
use lib.ListN.{length}
use Rattle.choice.proofs.Choosing.{Stepping}
use Rattle.choice.proofs.choose_into.Given as goal

abbrev pub invariant-loop-k : goal.invariant-loop-k
invariant-loop-k l = (l.n ≡ length l.marks) × (length l.placed ≡ 512) × Stepping l.marks l.offers l.rules l.types l.first l.told l.k l.steps l.used l.handed l.noted
