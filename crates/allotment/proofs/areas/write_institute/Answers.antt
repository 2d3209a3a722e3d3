-- The closing places of an institute are stored, two bytes each. The invariant: the area with the places passed put in.
-- Assumes nothing.
use mathlib.Core.Path.{refl}
use Rattle.allotment.proofs.Files.Putting.{count_few, places_room, closing_put, closings_put}
use Rattle.allotment.proofs.areas.write_institute.Goals as goal

pub shared_ref_as_front-numbers-items : goal.shared_ref_as_front-numbers-items
shared_ref_as_front-numbers-items c = search count_few

pub loop-k-init : goal.loop-k-init
loop-k-init c = (search count_few, search places_room, refl)

pub loop-k-preserved : goal.loop-k-preserved
loop-k-preserved c =
    let inv = c.loop-k.invariant in
    (inv.0, inv.1, closing_put c.args.noted.now _ _ _ c.loop-k-test.true inv.2 c.write_word.ensures)

pub returns : goal.returns
returns c = closings_put c.args.listed c.args.noted.now _ c.told-noted c.closing_count-count.ensures c.loop-k.auto.k-end c.loop-k-test.false c.requires c.loop-k.invariant.2
