-- Questions 15 and 14, and then what is found on a list for the opened round.
-- Assumes nothing.
use mathlib.Core.Path.{refl, sym}
use borrow.Author.Rules.{rules}
use Rattle.offers.proofs.Known.{candidates_few, places_many, places_zero}
use Rattle.review.proofs.Calling.{other_size, work_small, all_well}
use Rattle.review.proofs.call.review_round.Goals as goal

pub seats_size-requires : goal.seats_size-requires
seats_size-requires c = candidates_few c.args.o.now.hand

pub returns-then-list-seats_size : goal.returns-then-list-seats_size
returns-then-list-seats_size c = other_size c.args.o.now.hand c.seats_size.ensures _ _ c.if-list-seats_size.true c.into.ensures

pub returns-then-work-n : goal.returns-then-work-n
returns-then-work-n c = work_small c.args.o.now.hand c.seats_size.ensures _ (search rules) _ (search rules) c.into-then-work-n.ensures

pub slice_bounds-asked-end : goal.slice_bounds-asked-end
slice_bounds-asked-end c = candidates_few c.args.o.now.hand

pub slice_bounds-find-end : goal.slice_bounds-find-end
slice_bounds-find-end c = sym (places_many c.args.o.now.hand refl)

pub slice_bounds-wanted-end : goal.slice_bounds-wanted-end
slice_bounds-wanted-end c = candidates_few c.args.o.now.hand

pub slice_bounds-find-end-2 : goal.slice_bounds-find-end-2
slice_bounds-find-end-2 c = sym (places_many c.args.o.now.hand refl)

pub slice_bounds-steps-end : goal.slice_bounds-steps-end
slice_bounds-steps-end c = candidates_few c.args.o.now.hand

pub slice_bounds-find-end-3 : goal.slice_bounds-find-end-3
slice_bounds-find-end-3 c = sym (places_many c.args.o.now.hand refl)

pub find-found-requires : goal.find-found-requires
find-found-requires c =
    let hand = c.args.o.now.hand in
    (places_zero hand refl, places_many hand refl, places_zero hand refl)

pub returns : goal.returns
returns c = all_well c.args.o.now.hand c.seats_size.ensures _ (search rules) _ (search rules) c.find-found.ensures (search rules)
