use Rattle.reader.specs.AtHand.{round_at}
use Rattle.sweeps.specs.Sweeps.{ChosenAll}
use Rattle.sweeps.proofs.gather.Offers.choose_all.Given as goal

abbrev pub invariant-loop-j : goal.invariant-loop-j
invariant-loop-j l = ChosenAll (round_at l.self.o) l.self.asked.now l.self.wanted.now l.fresh l.j l.initial.steps l.steps
