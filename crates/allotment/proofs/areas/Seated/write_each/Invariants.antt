use Prim.Native.Nat.{◌*◌, ◌≤◌, ◌-◌}
use mathlib.Core.Path.{◌≡◌}
use lib.ListN.{length}
use lib.Seq.{sets}
use Rattle.lists.specs.Lists.{tabulate, joined}
use Rattle.reader.specs.AtHand.{round_at}
use Rattle.sweeps.specs.Accounts.{TypesNoted}
use Rattle.allotment.specs.Areas.{closing_width, closing_bytes}
use Rattle.allotment.proofs.areas.Seated.write_each.Given as goal

abbrev pub invariant-loop-j : goal.invariant-loop-j
invariant-loop-j l = record {
  few : l.j ≤ l.j-end;
  many : l.j-end ≤ 1000;
  flag : l.listed ≡ (round_at l.self.o).steps_listed;
  wide : l.width ≡ closing_width l.listed;
  room : length l.initial.closings ≡ l.width * l.j-end;
  noted : TypesNoted (round_at l.self.o) l.j l.self.holders.now l.types;
  closings : l.closings ≡ sets l.initial.closings 0 (joined (tabulate l.j (closing_bytes (round_at l.self.o))));
}

abbrev pub decreases-loop-j : goal.decreases-loop-j
decreases-loop-j l = l.j-end - l.j
