use Rattle.reader.specs.AtHand.{round_at}
use Rattle.sweeps.proofs.OffersMade.{Offering}
use Rattle.sweeps.proofs.offering.offer_all.Given as goal

abbrev pub invariant-loop-i : goal.invariant-loop-i
invariant-loop-i l = Offering (round_at l.o) l.steps l.initial.tried l.initial.asked l.initial.wanted l.tried l.asked l.wanted l.fresh l.i l.made
