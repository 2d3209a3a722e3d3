-- `placing::left::positions_of` meets its contract: the loop puts in one number after the other. Assumes nothing.
use Rattle.std.proofs.Common.{arith, ◌∙◌, length}
use lib.ListN.{length-set}
use lib.Seq.{get_or-set_same, get_or-set_other, get_or-take, ext_get_or, length-take-le}
use Rattle.lists.proofs.Counting.{same_or}
use Rattle.placing.proofs.left.positions_of.Goals as goal

pub loop-t-preserved : goal.loop-t-preserved
loop-t-preserved c =
    let t = c.loop-t.t in
    let few = c.requires in record {
      sized = length-set c.loop-t.room t _ ∙ c.loop-t.invariant.sized;
      put = λ q l. same_or q t (λ s. rw s (get_or-set_same c.loop-t.room t _ 0 (omega (arith, c.loop-t.invariant.sized, few))))
          (λ n. get_or-set_other c.loop-t.room t q _ 0 n ∙ c.loop-t.invariant.put q (omega arith));
    }

pub returns : goal.returns
returns c =
    let n = length c.args.reserved.now in
    let long = length-take-le n c.loop-t.room (omega (arith, c.loop-t.invariant.sized)) in (
      c.loop-t.invariant.sized,
      ext_get_or 0 _ c.args.reserved.now long
          (λ q l. get_or-take n c.loop-t.room q 0 (omega (arith, long)) ∙ c.loop-t.invariant.put q (omega (arith, long))),
    )
