use Rattle.std.proofs.Common.{◌-◌}
use Rattle.reader.specs.AtHand.{round_at}
use Rattle.offers.specs.Process.{entry_total}
use Rattle.sweeps.proofs.Going.{Going}
use Rattle.sweeps.proofs.process.sweep_all.Given as goal

abbrev pub invariant-loop-fresh : goal.invariant-loop-fresh
invariant-loop-fresh l = Going (round_at l.o) l.tried l.asked l.wanted l.steps l.count

abbrev pub decreases-loop-fresh : goal.decreases-loop-fresh
decreases-loop-fresh l = entry_total (round_at l.o) - l.count
