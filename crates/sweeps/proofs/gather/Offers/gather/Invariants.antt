use Rattle.std.proofs.Common.{suc, ◌<◌, ◌≤◌}
use Rattle.reader.specs.AtHand.{round_at}
use Rattle.sweeps.specs.Sweeps.{offer_to}
use Rattle.sweeps.proofs.Gathers.{Gathering}
use Rattle.sweeps.proofs.gather.Offers.gather.Given as goal

abbrev pub invariant-loop-p : goal.invariant-loop-p
invariant-loop-p l = record {
  inside : l.j < 1000;
  few : l.p-end ≤ 512;
  so_far : Gathering (round_at l.self.o) l.j (offer_to (suc l.j) l.self.asked.now l.self.wanted.now) l.placed l.who l.marks l.sets l.places l.count l.p;
}
