-- The seats are stored one after the other. The invariant: the area with the seats passed put in from the front.
-- Assumes nothing.
use native.Mathlib.Omega.{arith}
use lib.ListN.{length}
use borrow.Author.Rules.{rules}
use Rattle.std.proofs.lemmas.List.{length_push}
use Rattle.offers.proofs.Pairs.{pair_turn, pairs_end}
use Rattle.offers.proofs.SeatsPut.{seat_more, seat_room, holder_few, seats_put}
use Rattle.offers.proofs.write.write_seats.Goals as goal

pub write_seat-requires : goal.write_seat-requires
write_seat-requires c =
    let a = c.args in
    let pair = pair_turn a.holders.now a.steps.now c.into_iter-i-iterator.result c.loop-i.i-iterator c.next.new.self (cc) (cc) (cc) c.loop-i.yielded c.loop-i.yielded_by _ c.next.ensures.steps c.in-Some.is in
    record {
      form_in_bounds = (
        seat_room a.form c.in-Some.i (length a.holders.now) (omega (arith, pair.place, pair.in_first)) c.requires.holders_in_bounds c.loop-i.invariant.0,
        holder_few a.form a.holders.now (length c.loop-i.yielded) c.requires.holders_few pair.in_first pair.first,
      );
      i_bound = omega (arith, pair.place, pair.in_first, c.requires.steps_len.1);
    }

pub loop-i-preserved : goal.loop-i-preserved
loop-i-preserved c =
    let a = c.args in
    let pair = pair_turn a.holders.now a.steps.now c.into_iter-i-iterator.result c.loop-i.i-iterator c.next.new.self (cc) (cc) (cc) c.loop-i.yielded c.loop-i.yielded_by _ c.next.ensures.steps c.in-Some.is in (
      search rules,
      seat_more a.form a.holders.now a.steps.now a.area.now pair c.write_seat.ensures c.loop-i.invariant.1 (length_push c.loop-i.yielded _),
    )

pub returns : goal.returns
returns c =
    let a = c.args in
    let end = pairs_end a.holders.now a.steps.now c.into_iter-i-iterator.result c.loop-i.i-iterator c.next.new.self (cc) (cc) (cc) c.loop-i.yielded c.loop-i.yielded_by _ c.next.ensures.steps c.in-None.is in
    seats_put a.form a.holders.now a.steps.now a.area.now (omega (arith, end)) (omega (arith, end, c.requires.steps_len.0)) c.loop-i.invariant.1
