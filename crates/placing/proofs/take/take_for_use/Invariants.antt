use Prim.Native.Nat.{◌≤◌}
use Rattle.round.specs.Category.{code_of}
use Rattle.placing.specs.Offers.{considers_by}
use Rattle.placing.proofs.Down.{Down}
use Rattle.placing.proofs.take.take_for_use.Given as goal

abbrev pub invariant-loop-p : goal.invariant-loop-p
invariant-loop-p l = record {
  few : l.n ≤ l.p;
  down : Down l.reserved l.marks (considers_by l.offers l.steps (code_of l.category)) l.left l.placed l.exhausted l.more l.n l.p;
}
