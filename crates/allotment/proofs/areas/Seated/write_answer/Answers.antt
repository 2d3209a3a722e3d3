-- The answer area is cut into the seats, the closing places and what is behind them, where the types go.
-- Assumes nothing.
use mathlib.Core.Path.{refl, sym, ◌∙◌}
use native.Mathlib.Omega.{arith}
use lib.ListN.{length-take}
use lib.Seq.{length-take-le}
use Rattle.offers.proofs.Known.{candidates_few, institutes_few}
use Rattle.allotment.proofs.Files.AreaSeats.{closings_few}
use Rattle.allotment.proofs.Files.Answering.{as_many, holders_small, seats_room, size_known, closings_long, types_many, types_room, answer_put}
use Rattle.allotment.proofs.areas.Seated.write_answer.Goals as goal

pub seats_size-requires : goal.seats_size-requires
seats_size-requires c = candidates_few c.args.self.now.o.hand

pub split_at_mut-seats-requires : goal.split_at_mut-seats-requires
split_at_mut-seats-requires c =
    let s = c.args.self.now in
    omega (arith, c.requires, size_known s.o.hand s.held refl refl c.seats_size.ensures)

pub overflow_mul-closing_width : goal.overflow_mul-closing_width
overflow_mul-closing_width c = omega (arith, closings_few _ c.closing_width.ensures (institutes_few c.args.self.now.o.hand))

pub split_at_mut-closings-requires : goal.split_at_mut-closings-requires
split_at_mut-closings-requires c =
    let s = c.args.self.now in
    omega (arith, c.requires, c.split_at_mut-seats.ensures.back_len, size_known s.o.hand s.held c.own_steps.ensures c.closing_width.ensures c.seats_size.ensures)

pub write_seats-requires-clause-steps_len : goal.write_seats-requires-clause-steps_len
write_seats-requires-clause-steps_len c = as_many c.args.self.now.o.hand c.args.self.now.held

pub write_seats-requires-clause-holders_few : goal.write_seats-requires-clause-holders_few
write_seats-requires-clause-holders_few c = holders_small c.args.self.now.o.hand c.args.self.now.held

pub write_seats-requires-clause-holders_in_bounds : goal.write_seats-requires-clause-holders_in_bounds
write_seats-requires-clause-holders_in_bounds c =
    seats_room c.args.self.now.o.hand c.args.self.now.held (c.split_at_mut-seats.ensures.front_len ∙ c.seats_size.ensures)

pub write_closings-types-requires : goal.write_closings-types-requires
write_closings-types-requires c =
    let s = c.args.self.now in
    closings_long s.o.hand s.held c.own_steps.ensures c.closing_width.ensures c.seats_size.ensures c.split_at_mut-closings.ensures.front_len

pub slice_bounds-copy_from_slice-end : goal.slice_bounds-copy_from_slice-end
slice_bounds-copy_from_slice-end c =
    let s = c.args.self.now in
    types_room s.o.hand s.held c.own_steps.ensures c.closing_width.ensures c.seats_size.ensures c.requires
    c.split_at_mut-seats.ensures.back_len c.split_at_mut-closings.ensures.back_len

pub slice_bounds-copy_from_slice-end-2 : goal.slice_bounds-copy_from_slice-end-2
slice_bounds-copy_from_slice-end-2 c =
    let s = c.args.self.now in
    sym (length-take-le _ _
    (types_room s.o.hand s.held c.own_steps.ensures c.closing_width.ensures c.seats_size.ensures c.requires
    c.split_at_mut-seats.ensures.back_len c.split_at_mut-closings.ensures.back_len))

pub slice_bounds-types-end : goal.slice_bounds-types-end
slice_bounds-types-end c =
    let s = c.args.self.now in
    omega (arith, types_many s.o.hand s.held c.write_closings-types.ensures.types, length-take s.o.head.candidates c.write_closings-types.result)

pub slice_bounds-copy_from_slice-end-3 : goal.slice_bounds-copy_from_slice-end-3
slice_bounds-copy_from_slice-end-3 c = sym (types_many c.args.self.now.o.hand c.args.self.now.held c.write_closings-types.ensures.types)

pub copy_from_slice-requires : goal.copy_from_slice-requires
copy_from_slice-requires c =
    let s = c.args.self.now in
    length-take-le _ _
    (types_room s.o.hand s.held c.own_steps.ensures c.closing_width.ensures c.seats_size.ensures c.requires
    c.split_at_mut-seats.ensures.back_len c.split_at_mut-closings.ensures.back_len)
    ∙ sym (types_many s.o.hand s.held c.write_closings-types.ensures.types)

pub returns : goal.returns
returns c =
    let s = c.args.self.now in
    answer_put s.o.hand s.held c.own_steps.ensures c.closing_width.ensures c.seats_size.ensures _ _ c.split_at_mut-seats.ensures.front_len
    c.write_seats.ensures c.write_closings-types.ensures.closings c.write_closings-types.ensures.types c.copy_from_slice.ensures.after c.split_at_mut-seats.ensures.back c.split_at_mut-closings.ensures.back
