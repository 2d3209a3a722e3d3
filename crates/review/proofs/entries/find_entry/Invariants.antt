use Prim.Native.Nat.{◌≤◌}
use mathlib.Core.Path.{◌≡◌}
use lib.ListN.{length}
use Rattle.reader.specs.AtHand.{round_at}
use Rattle.offers.specs.AtHand.{seats_at}
use Rattle.offers.proofs.FirstFound.{PassedOver}
use Rattle.review.specs.Finding.{better}
use Rattle.review.proofs.entries.find_entry.Given as goal

abbrev pub invariant-loop-i : goal.invariant-loop-i
invariant-loop-i l =
    (l.i ≤ l.i-end) × (l.asked ≡ l.initial.asked) × (l.wanted ≡ l.initial.wanted) × (length l.steps ≡ l.listed.o.head.candidates)
    × PassedOver (better (round_at l.listed.o) (seats_at l.listed)) l.i
