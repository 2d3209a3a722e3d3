-- The institutes passed are put in.
use Rattle.std.proofs.Common.{◌≤◌}
use Rattle.lists.specs.Lists.{tabulate, joined}
use Rattle.text.specs.Put.{Put}
use Rattle.page.specs.Parts.{closing_of}
use Rattle.page.proofs.reads.Allotment.put_closings.Given as goal

abbrev pub invariant-loop-j : goal.invariant-loop-j
invariant-loop-j l = (l.j ≤ l.self.head.institutes) × Put l.initial.page (joined (tabulate l.j (closing_of l.self))) l.page
