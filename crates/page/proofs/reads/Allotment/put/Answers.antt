-- The offers, then the seats, then the closing places.
-- Assumes nothing.
use mathlib.Core.List.{◌++◌}
use Rattle.text.proofs.Putting.{put_then, fits_first, fits_then}
use Rattle.page.specs.Page.{offers_line}
use Rattle.page.specs.Reads.{page_in}
use Rattle.page.specs.Parts.{seats_of}
use Rattle.page.proofs.reads.Allotment.put.Goals as goal

pub put_offers-requires : goal.put_offers-requires
unfolding page_in
put_offers-requires c =
    let offers = offers_line c.args.offers in
    let seats = seats_of c.args.self.now in
    fits_first offers seats (fits_first (offers ++ seats) _ c.requires)

pub put_seats-requires : goal.put_seats-requires
unfolding page_in
put_seats-requires c = fits_then _ (fits_first (offers_line c.args.offers ++ seats_of c.args.self.now) _ c.requires) c.put_offers.ensures

pub put_closings-requires : goal.put_closings-requires
unfolding page_in
put_closings-requires c = fits_then _ c.requires (put_then c.put_offers.ensures c.put_seats.ensures)

pub returns : goal.returns
unfolding page_in
returns c = put_then (put_then c.put_offers.ensures c.put_seats.ensures) c.put_closings.ensures
