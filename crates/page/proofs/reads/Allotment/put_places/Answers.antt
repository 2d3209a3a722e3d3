-- The closing places are put in one after the other.
-- Assumes nothing.
use native.Mathlib.Omega.{arith}
use Rattle.text.proofs.Putting.{put_piece}
use Rattle.page.proofs.Pieces.{place_of, place_fits, places_put}
use Rattle.page.proofs.reads.Allotment.put_places.Goals as goal

pub put_next-requires : goal.put_next-requires
put_next-requires c =
    let inside = rw c.loop-k.invariant.0 at c.loop-k-test.true in
    rw c.word.ensures.0 (place_fits c.args.self.now c.args.from c.loop-k.k c.requires.fits inside c.loop-k.invariant.2)

pub loop-k-preserved : goal.loop-k-preserved
loop-k-preserved c = (c.loop-k.invariant.0, omega arith, put_piece (place_of c.args.self.now c.args.from) c.loop-k.k c.loop-k.invariant.2 (rw c.word.ensures.0 at c.put_next.ensures))

pub returns : goal.returns
returns c = places_put c.args.self.now c.args.from c.loop-k.invariant.2 (omega arith) (omega arith)
