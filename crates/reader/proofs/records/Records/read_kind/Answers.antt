-- `reader::records::Records::read_kind` meets its contract: the verdict on the rest stands for that on all (proofs/Run.antt).
-- Assumes nothing.
use native.Mathlib.Omega.{arith}
use Rattle.reader.proofs.Run.{run_refused, run_more, run_done}
use Rattle.reader.proofs.records.Records.read_kind.Goals as goal

pub returns-in_default : goal.returns-in_default
returns-in_default c =
    let run = c.loop-start.invariant in
    rw c.in_default.is (run_refused _ _ _ _ _ _ run (omega (arith, run.sized)) c.read-got.ensures _ _ c.in_default.is)

pub loop-start-preserved : goal.loop-start-preserved
loop-start-preserved c =
    let run = c.loop-start.invariant in
    run_more _ _ _ _ _ _ run (omega (arith, run.sized)) c.read-got.ensures c.in-Ok.is c.args.self.now.in_range

pub returns : goal.returns
returns c =
    let run = c.loop-start.invariant in
    run_done _ _ _ _ _ _ run _ _ (omega (arith, run.sized)) c.requires.count_bound.0 c.requires.count_bound.1
