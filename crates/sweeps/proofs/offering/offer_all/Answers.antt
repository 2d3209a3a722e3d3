-- `sweeps::offering::offer_all` meets its contract: the candidates passed have offered if they may. Assumes nothing.
use Rattle.std.proofs.Common.{arith}
use Rattle.offers.proofs.Known.{candidates_many}
use Rattle.sweeps.proofs.OffersMade.{try_more, one_offered, one_passed, all_offered}
use Rattle.sweeps.proofs.offering.offer_all.Goals as goal
use Rattle.sweeps.proofs.offering.offer_all.Goals.{then-may_try, else-may_try}

pub offer_next-requires-clause-i_in_bounds : goal.offer_next-requires-clause-i_in_bounds
offer_next-requires-clause-i_in_bounds c = try_more _ _ _ _ c.may_try.ensures c.if-may_try.true

pub loop-i-preserved : goal.loop-i-preserved
loop-i-preserved c = elim c.if-may_try.branch [
  | then-may_try w ↦
      rw (w.tried-is, w.asked-is, w.wanted-is, w.fresh-is, w.made-is)
      (one_offered _ _ _ _ _ c.loop-i.invariant c.may_try.ensures w.if-may_try.true (omega arith) (omega arith) (omega arith) w.offer_next.ensures)
  | else-may_try w ↦
      rw (w.tried-is, w.asked-is, w.wanted-is, w.fresh-is, w.made-is) (one_passed _ _ _ _ _ c.loop-i.invariant c.may_try.ensures w.if-may_try.false)
]

pub returns : goal.returns
returns c = all_offered _ _ _ _ _ c.loop-i.invariant (candidates_many c.args.o.now.hand) (omega arith) (omega arith) (omega arith) (omega arith)
