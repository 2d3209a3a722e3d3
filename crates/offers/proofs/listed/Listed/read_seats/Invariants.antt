use Prim.Native.Nat.{◌≤◌}
use mathlib.Core.Path.{◌≡◌}
use Rattle.reader.specs.AtHand.{round_at}
use Rattle.offers.specs.Listed.{list_of, SeatsRead}
use Rattle.offers.proofs.listed.Listed.read_seats.Given as goal

abbrev pub invariant-loop-i : goal.invariant-loop-i
invariant-loop-i l =
    (l.i ≤ l.i-end) × (l.i-end ≡ l.self.o.head.candidates)
    × SeatsRead (round_at l.self.o) (list_of l.self.o.head.form (round_at l.self.o) l.self.list.now) l.i l.asked l.wanted
