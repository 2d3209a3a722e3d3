use mathlib.Core.Path.{◌≡◌}
use lib.ListN.{length}
use lib.Seq.{sets}
use Rattle.lists.specs.Lists.{tabulate, joined}
use Rattle.offers.proofs.SeatsPut.{held_pieces}
use Rattle.offers.proofs.write.write_seats.Given as goal

abbrev pub invariant-loop-i : goal.invariant-loop-i
invariant-loop-i l =
    (length l.area ≡ length l.initial.area) × (l.area ≡ sets l.initial.area 0 (joined (tabulate (length l.yielded) (held_pieces l.form l.holders l.steps))))
