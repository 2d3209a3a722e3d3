-- `review::entries::step_with` meets its contract: the entry is added, the institute chooses, and what stood there is put back. Assumes nothing.
use native.Mathlib.Omega.{arith}
use Rattle.offers.proofs.Known.{institutes_few}
use Rattle.review.proofs.EntryAdded.{step_added, asked_back, wanted_back}
use borrow.Author.Rules.{rules}
use Rattle.review.proofs.entries.step_with.Goals as goal

pub add_entry-requires : goal.add_entry-requires
add_entry-requires c = (search rules, search rules, omega (arith, c.requires.i_lt_candidates.1, institutes_few c.args.o.now.hand))

pub returns : goal.returns
returns c = (search step_added, search asked_back, search wanted_back)
