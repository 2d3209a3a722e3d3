use Prim.Native.Nat.{◌≤◌}
use mathlib.Core.Path.{◌≡◌}
use lib.ListN.{length}
use Rattle.reader.specs.AtHand.{round_at}
use Rattle.offers.specs.AtHand.{seats_at}
use Rattle.offers.proofs.FirstFound.{PassedOver}
use Rattle.review.proofs.EntriesAbove.{takes_at}
use Rattle.review.proofs.entries.best_entry.Given as goal

abbrev pub invariant-loop-k : goal.invariant-loop-k
invariant-loop-k l =
    (l.k ≤ l.k-end) × (l.asked ≡ l.initial.asked) × (l.wanted ≡ l.initial.wanted) × (length l.steps ≡ l.listed.o.head.candidates)
    × PassedOver (takes_at (round_at l.listed.o) (seats_at l.listed) l.i) l.k
