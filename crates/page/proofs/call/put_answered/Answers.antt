-- The form and the head are read again, and the page off the answer area.
-- Assumes nothing.
use borrow.Author.Rules.{rules}
use Rattle.page.proofs.Answering.{head_there, candidates_most, institutes_most_is, answer_there, page_fits, answered_put}
use Rattle.page.proofs.call.put_answered.Goals as goal

pub slice_bounds-head_in-end : goal.slice_bounds-head_in-end
slice_bounds-head_in-end c = search (rules, head_there)

pub invariant_of-allotment : goal.invariant_of-allotment
invariant_of-allotment c = record { few = (search (rules, candidates_most), search (rules, institutes_most_is)); stands = search (rules, answer_there) }

pub put-requires : goal.put-requires
put-requires c = search (rules, page_fits)

pub returns : goal.returns
returns c = search (rules, answered_put)
