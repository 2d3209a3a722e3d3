use Prim.Native.Nat.{◌≤◌}
use mathlib.Core.Path.{◌≡◌}
use lib.ListN.{length}
use Rattle.placing.specs.Left.{Left}
use Rattle.placing.proofs.Visits.{unvisited, Tried, Asked}
use Rattle.placing.proofs.placing.+place.Given as goal

abbrev pub decreases-place : goal.decreases-place
decreases-place l = unvisited l.visited.now

abbrev pub invariant-loop-h : goal.invariant-loop-h
invariant-loop-h l = record {
  in_range : l.end ≤ length l.fn.placed;
  same : l.placed ≡ l.fn.placed;
  positions : Left l.reserved l.left l.fn.placed;
  asked : Asked l.reserved l.marks l.fn.placed l.initial.visited l.visited l.t l.end;
}

abbrev pub decreases-loop-h : goal.decreases-loop-h
decreases-loop-h l = l.end

abbrev pub invariant-loop-t : goal.invariant-loop-t
invariant-loop-t l = record {
  same : l.placed ≡ l.fn.placed;
  positions : Left l.reserved l.left l.fn.placed;
  tried : Tried l.reserved l.marks l.fn.placed l.fn.visited l.visited l.c l.t;
}
