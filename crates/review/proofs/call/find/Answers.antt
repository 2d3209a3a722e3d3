-- `review::call::find` meets its contract: the first wrong seat is found, or else the entries decide. Assumes nothing.
use Rattle.review.proofs.FirstFinding.{wrong_found, none_wrong}
use Rattle.review.proofs.call.find.Goals as goal

pub returns-in-Some : goal.returns-in-Some
returns-in-Some c = wrong_found _ _ _ c.read_seats.ensures c.give_steps.ensures (rw c.in-Some.is at c.first_wrong.ensures)

pub returns-in-None : goal.returns-in-None
returns-in-None c = none_wrong _ _ _ c.read_seats.ensures c.give_steps.ensures (rw c.in-None.is at c.first_wrong.ensures) c.find_entry.ensures
