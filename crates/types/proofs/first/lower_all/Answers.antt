-- `types::first::lower_all` meets its contract: the loop keeps `LoweredTo`. Assumes nothing.
use native.Mathlib.Omega.{arith}
use lib.ListN.{length}
use Rattle.types.proofs.LowerDown.{front_written, lowered_all, lowering_from, lowered_none, lowered_one}
use Rattle.types.proofs.first.lower_all.Goals.{then-placed-p-ne0, else-placed-p-ne0}
use Rattle.types.proofs.first.lower_all.Goals as goal

pub lower_at-requires : goal.lower_at-requires
lower_at-requires c = lowering_from _ _ _ c.loop-p.invariant c.loop-p-test.true c.requires.reserved_len_bound.0 c.if-placed-p-ne0.true

pub loop-p-preserved : goal.loop-p-preserved
loop-p-preserved c =
    let n = length c.args.marks.now in
    let types = length c.args.reserved.now in
    let k = c.loop-p.invariant in
    elim c.if-placed-p-ne0.branch [
      | then-placed-p-ne0 w ↦
          let less = front_written types c.loop-p.room w.lower_at.new.room w.room-is w.lower_at.auto.room (omega arith) in
          let written = front_written n c.loop-p.held w.lower_at.new.marks w.held-is w.lower_at.auto.marks (omega arith) in
          rw (less.0, written.0, w.left-is, w.placed-is, w.exhausted-is)
          (lowered_one _ _ _ k c.loop-p-test.true w.lower_at.ensures w.if-placed-p-ne0.true w.lower_at.auto.marks w.lower_at.auto.exhausted)
      | else-placed-p-ne0 w ↦ rw (w.room-is, w.left-is, w.held-is, w.placed-is, w.exhausted-is) (lowered_none _ _ _ k c.loop-p-test.true (omega (arith, w.if-placed-p-ne0.false)))
    ]

pub returns : goal.returns
returns c = (lowered_all _ _ _ c.loop-p.invariant (omega arith), c.loop-p.invariant.positions)
