-- `sweeps::process::sweep_all` meets its contract: the process goes on while somebody offers. Assumes nothing.
use Rattle.std.proofs.Common.{arith, sym}
use lib.Seq.{length-take-le}
use Rattle.offers.proofs.Known.{candidates_many, institutes_few}
use Rattle.sweeps.proofs.Going.{going_start, going_small, going_less, asks_many, going_next, going_count, going_held}
use Rattle.sweeps.proofs.process.sweep_all.Goals as goal

pub loop-fresh-init : goal.loop-fresh-init
loop-fresh-init c = search going_start

pub slice_bounds-fresh-end : goal.slice_bounds-fresh-end
slice_bounds-fresh-end c = omega (arith, institutes_few c.args.o.now.hand)

pub slice_bounds-fill-end : goal.slice_bounds-fill-end
slice_bounds-fill-end c = sym (length-take-le _ c.loop-fresh.fresh (omega (arith, institutes_few c.args.o.now.hand)))

pub returns-then-made-eq0 : goal.returns-then-made-eq0
returns-then-made-eq0 c = (search going_count, omega (arith, asks_many, candidates_many), omega (arith, candidates_many), search going_held)

pub overflow_add-count : goal.overflow_add-count
overflow_add-count c = search going_small

pub loop-fresh-smaller : goal.loop-fresh-smaller
loop-fresh-smaller c = search going_less

pub loop-fresh-preserved : goal.loop-fresh-preserved
loop-fresh-preserved c = search going_next
