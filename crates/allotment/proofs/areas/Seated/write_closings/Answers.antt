-- The table of the seats' categories is lent twice, to be filled and to be read.
-- Assumes nothing.
use borrow.Author.Rules.{rules}
use mathlib.Core.Path.{refl, sym, ◌∙◌}
use Rattle.choice.proofs.Steps.{room_back, types_back, each_back}
use Rattle.offers.proofs.Known.{candidates_few, places_many, places_zero}
use Rattle.offers.proofs.Wanted.{steps_each, wanted_same}
use Rattle.allotment.proofs.areas.Seated.write_closings.Goals as goal

pub slice_bounds-wanted-end : goal.slice_bounds-wanted-end
slice_bounds-wanted-end c = candidates_few c.args.self.now.o.hand

pub slice_bounds-seats_wanted-end : goal.slice_bounds-seats_wanted-end
slice_bounds-seats_wanted-end c = sym (places_many c.args.self.now.o.hand refl)

pub seats_wanted-requires-clause-wanted_len : goal.seats_wanted-requires-clause-wanted_len
seats_wanted-requires-clause-wanted_len c = places_many c.args.self.now.o.hand refl ∙ sym (steps_each c.args.self.now.o.hand c.args.self.now.held)

pub slice_bounds-wanted-end-2 : goal.slice_bounds-wanted-end-2
slice_bounds-wanted-end-2 c = room_back (candidates_few c.args.self.now.o.hand) refl c.seats_wanted.new.wanted (search rules)

pub slice_bounds-write_each-end : goal.slice_bounds-write_each-end
slice_bounds-write_each-end c = sym (each_back (candidates_few c.args.self.now.o.hand) refl c.seats_wanted.new.wanted (search rules) _ refl)

pub write_each-requires-clause-wanted : goal.write_each-requires-clause-wanted
write_each-requires-clause-wanted c =
    wanted_same (types_back (candidates_few c.args.self.now.o.hand) refl c.seats_wanted.new.wanted (search rules)) c.seats_wanted.ensures

pub slice_bounds-types-end : goal.slice_bounds-types-end
slice_bounds-types-end c = candidates_few c.args.self.now.o.hand

pub slice_bounds-write_each-end-2 : goal.slice_bounds-write_each-end-2
slice_bounds-write_each-end-2 c = sym (places_many c.args.self.now.o.hand refl)

pub write_each-requires-clause-types_value : goal.write_each-requires-clause-types_value
write_each-requires-clause-types_value c = places_zero c.args.self.now.o.hand refl

pub returns-clause-types : goal.returns-clause-types
returns-clause-types c = types_back (candidates_few c.args.self.now.o.hand) refl c.write_each.new.types (search rules) ∙ c.write_each.ensures.types
