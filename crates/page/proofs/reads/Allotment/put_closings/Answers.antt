-- The institutes are put in, a line each.
-- Assumes nothing.
use native.Mathlib.Omega.{arith}
use Rattle.text.proofs.Putting.{put_piece}
use Rattle.page.specs.Parts.{closing_of}
use Rattle.page.proofs.Pieces.{closing_fits, closings_put}
use Rattle.page.proofs.reads.Allotment.put_closings.Goals as goal

pub put_closing-requires-clause-fits : goal.put_closing-requires-clause-fits
put_closing-requires-clause-fits c = closing_fits c.args.self.now c.loop-j.j c.requires c.loop-j-test.true c.loop-j.invariant.1

pub loop-j-preserved : goal.loop-j-preserved
loop-j-preserved c = (omega arith, put_piece (closing_of c.args.self.now) c.loop-j.j c.loop-j.invariant.1 c.put_closing.ensures)

pub returns : goal.returns
returns c = closings_put c.args.self.now c.loop-j.invariant.1 c.loop-j.invariant.0 (omega arith)
