-- The seats passed are put in.
use Rattle.std.proofs.Common.{◌≤◌}
use Rattle.lists.specs.Lists.{tabulate, joined}
use Rattle.text.specs.Put.{Put}
use Rattle.page.specs.Parts.{seat_of}
use Rattle.page.proofs.reads.Allotment.put_seats.Given as goal

abbrev pub invariant-loop-i : goal.invariant-loop-i
invariant-loop-i l = (l.i ≤ l.self.head.candidates) × Put l.initial.page (joined (tabulate l.i (seat_of l.self))) l.page
