use Prim.Native.Nat.{◌*◌, ◌≤◌}
use mathlib.Core.Path.{◌≡◌}
use lib.ListN.{length}
use lib.Seq.{sets}
use Rattle.lists.specs.Lists.{tabulate, joined}
use Rattle.allotment.proofs.Files.Putting.{closing_pieces}
use Rattle.allotment.proofs.areas.write_institute.Given as goal

abbrev pub invariant-loop-k : goal.invariant-loop-k
invariant-loop-k l = (l.count ≤ 12) × (2 * l.count ≤ length l.initial.places) × (l.places ≡ sets l.initial.places 0 (joined (tabulate l.k (closing_pieces l.noted))))
