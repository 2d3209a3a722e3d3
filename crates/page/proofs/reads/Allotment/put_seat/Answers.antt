-- The candidate, then the institute, then the step, then the type, then the line's end.
-- Assumes nothing.
use Rattle.text.proofs.Putting.{put_then}
use Rattle.page.proofs.Pieces.{type_here, seat_put}
use Rattle.page.proofs.reads.Allotment.put_seat.Goals as goal

pub returns : goal.returns
returns c =
    let type = type_here c.args.self.now c.args.i c.own_steps-listed.ensures c.seats_size-closings.ensures c.closing_width.ensures c.from-kind.ensures in
    let placed = put_then (put_then c.put_number.ensures c.put_next.ensures) c.put_next-2.ensures in
    seat_put c.args.self.now c.args.i c.institute.ensures.0 c.step.ensures.0 type (put_then (put_then placed c.put_next-3.ensures) c.put_line_end.ensures)
