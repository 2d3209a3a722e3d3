-- The seats are put in, a line each.
-- Assumes nothing.
use native.Mathlib.Omega.{arith}
use Rattle.text.proofs.Putting.{put_piece}
use Rattle.page.specs.Parts.{seat_of}
use Rattle.page.proofs.Pieces.{seat_fits, seats_put}
use Rattle.page.proofs.reads.Allotment.put_seats.Goals as goal

pub put_seat-requires-clause-fits : goal.put_seat-requires-clause-fits
put_seat-requires-clause-fits c = seat_fits c.args.self.now c.loop-i.i c.requires c.loop-i-test.true c.loop-i.invariant.1

pub loop-i-preserved : goal.loop-i-preserved
loop-i-preserved c = (omega arith, put_piece (seat_of c.args.self.now) c.loop-i.i c.loop-i.invariant.1 c.put_seat.ensures)

pub returns : goal.returns
returns c = seats_put c.args.self.now c.loop-i.invariant.1 c.loop-i.invariant.0 (omega arith)
