use lib.ListN.{length}
use Rattle.reader.specs.AtHand.{round_at}
use Rattle.offers.specs.Held.{SeatsWanted}
use Rattle.offers.proofs.seats.seats_wanted.Given as goal

abbrev pub invariant-loop-i : goal.invariant-loop-i
invariant-loop-i l = SeatsWanted (round_at l.o) (length l.yielded) l.holders l.steps l.wanted
