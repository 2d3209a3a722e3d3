-- Question 14, and then the seats, the answer area and the work area of a round that was read.
-- Assumes nothing.
use borrow.Author.Rules.{rules}
use mathlib.Core.Path.{refl, sym}
use Rattle.offers.proofs.Known.{candidates_few, institutes_few, places_many, places_zero}
use Rattle.allotment.proofs.Calling.{answer_fits, answer_small, work_small, all_well}
use Rattle.allotment.proofs.call.allot_round.Goals as goal
use Rattle.allotment.proofs.call.allot_round.Goals.{then-answer-answer_size-via-then-answer-answer_size, then-answer-answer_size-via-else-answer-answer_size+then-work-n}

pub answer_size-requires : goal.answer_size-requires
answer_size-requires c = (candidates_few c.args.o.now.hand, institutes_few c.args.o.now.hand)

pub returns-then-answer-answer_size : goal.returns-then-answer-answer_size
returns-then-answer-answer_size c =
    let hand = c.args.o.now.hand in
    elim c.then-answer-answer_size.branch [
      | then-answer-answer_size-via-then-answer-answer_size w ↦ answer_small hand c.own_steps.ensures c.answer_size.ensures (search rules) c.into.ensures
      | then-answer-answer_size-via-else-answer-answer_size+then-work-n w ↦ work_small hand (search rules) c.into.ensures
    ]

pub slice_bounds-holders-end : goal.slice_bounds-holders-end
slice_bounds-holders-end c = candidates_few c.args.o.now.hand

pub slice_bounds-seat_all-end : goal.slice_bounds-seat_all-end
slice_bounds-seat_all-end c = sym (places_many c.args.o.now.hand refl)

pub slice_bounds-steps-end : goal.slice_bounds-steps-end
slice_bounds-steps-end c = candidates_few c.args.o.now.hand

pub slice_bounds-seat_all-end-2 : goal.slice_bounds-seat_all-end-2
slice_bounds-seat_all-end-2 c = sym (places_many c.args.o.now.hand refl)

pub seat_all-offers-requires-clause-holders_value : goal.seat_all-offers-requires-clause-holders_value
seat_all-offers-requires-clause-holders_value c =
    let hand = c.args.o.now.hand in
    (places_zero hand refl, places_zero hand refl)

pub seat_all-offers-requires-clause-r_in_bounds : goal.seat_all-offers-requires-clause-r_in_bounds
seat_all-offers-requires-clause-r_in_bounds c = answer_fits c.args.o.now.hand c.own_steps.ensures c.answer_size.ensures (search rules)

pub returns : goal.returns
returns c = all_well c.args.o.now.hand c.own_steps.ensures c.answer_size.ensures (search rules) (search rules) c.seat_all-offers.ensures.0 c.seat_all-offers.ensures.1 (search rules)
