-- The institute's number, then its closing places, which stand behind the seats, then the line's end.
-- Assumes nothing.
use Rattle.text.proofs.Putting.{put_then}
use Rattle.page.proofs.Pieces.{closing_there}
use Rattle.page.proofs.reads.Allotment.put_closing.Goals as goal

pub put_places-requires-clause-in_bounds : goal.put_places-requires-clause-in_bounds
put_places-requires-clause-in_bounds c = rw (c.seats_size-seats.ensures, c.closing_width.ensures, c.own_steps.ensures) (closing_there c.args.self.now c.args.j c.requires.j_bound)

pub returns : goal.returns
returns c =
    let places = rw (c.seats_size-seats.ensures, c.closing_width.ensures, c.own_steps.ensures) at c.put_places.ensures in
    put_then (put_then c.put_named.ensures places) c.put_line_end.ensures
