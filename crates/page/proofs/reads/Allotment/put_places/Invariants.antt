-- The closing places passed are put in.
use Rattle.std.proofs.Common.{◌≡◌, ◌≤◌}
use Rattle.lists.specs.Lists.{tabulate, joined}
use Rattle.allotment.specs.Areas.{closing_count}
use Rattle.text.specs.Put.{Put}
use Rattle.page.specs.Parts.{listed}
use Rattle.page.proofs.Pieces.{place_of}
use Rattle.page.proofs.reads.Allotment.put_places.Given as goal

abbrev pub invariant-loop-k : goal.invariant-loop-k
invariant-loop-k l = (l.k-end ≡ closing_count (listed l.self)) × (l.k ≤ l.k-end) × Put l.initial.page (joined (tabulate l.k (place_of l.self l.from))) l.page
