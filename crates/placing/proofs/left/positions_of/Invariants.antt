use Rattle.std.proofs.Common.{ℕ, ◌<◌, ◌≡◌, length}
use lib.ListN.{get_or}
use Rattle.placing.proofs.left.positions_of.Given as goal

abbrev pub invariant-loop-t : goal.invariant-loop-t
invariant-loop-t l = record {
  sized : length l.room ≡ 8;
  put : (q : ℕ) → q < l.t → get_or l.room q 0 ≡ get_or l.reserved q 0;
}
