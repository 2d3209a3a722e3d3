-- `placing::take::take_for_use` meets its contract: the loop keeps `Down`. Assumes nothing.
use native.Mathlib.Omega.{arith}
use Rattle.placing.proofs.Down.{searching, passed, passed_full, placed_one, passed_by}
use Rattle.placing.proofs.take.take_for_use.Goals.{then-more+then-considers+then-take_one, then-more+then-considers+else-take_one, else-more, else-more-via-then-more+else-considers, else-more-via-else-more}
use Rattle.placing.proofs.take.take_for_use.Goals as goal

pub take_one-requires : goal.take_one-requires
take_one-requires c = searching _ _ _ c.loop-p-test.true c.loop-p.invariant.down c.requires.reserved_len_bound.0

pub loop-p-preserved : goal.loop-p-preserved
loop-p-preserved c =
    let d = c.loop-p.invariant.down in
    elim c.if-more.branch [
      | then-more+then-considers+then-take_one w ↦ rw (w.left-is, w.placed-is, w.exhausted-is, w.more-is, w.n-is) record {
        few = omega arith;
        down = placed_one _ _ _ c.loop-p-test.true d w.considers.ensures w.if-considers.true w.take_one.ensures w.take_one.auto.placed w.if-take_one.true;
      }
      | then-more+then-considers+else-take_one w ↦ rw (w.left-is, w.placed-is, w.exhausted-is, w.more-is, w.n-is) record {
        few = omega arith;
        down = passed_by _ _ _ c.loop-p-test.true d w.considers.ensures w.if-considers.true w.take_one.ensures w.take_one.auto.placed w.if-take_one.false w.take_one.auto.exhausted
            w.some_open-more-else-take_one.ensures;
      }
      | else-more w ↦ rw (w.left-is, w.placed-is, w.exhausted-is, w.more-is, w.n-is) record {
        few = omega arith;
        down = elim w.else-more.branch [
          | else-more-via-then-more+else-considers w' ↦ passed _ _ _ c.loop-p-test.true d w'.considers.ensures w'.if-considers.false
          | else-more-via-else-more w' ↦ passed_full _ _ _ c.loop-p-test.true d w'.if-more.false
        ];
      }
    ]
