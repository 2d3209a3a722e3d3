-- `review::entries::find_entry` meets its contract: no candidate passed has a better entry. Assumes nothing.
use native.Mathlib.Omega.{arith}
use Rattle.offers.proofs.Known.{candidates_many}
use Rattle.review.proofs.EntriesAbove.{entry_found_lem, nothing_found}
use Rattle.review.proofs.entries.find_entry.Goals as goal

pub returns-in-Some : goal.returns-in-Some
returns-in-Some c =
    entry_found_lem _ _ c.loop-i.invariant.4 (omega (arith, c.loop-i-test.true, candidates_many c.args.listed.now.o.hand)) (rw c.in-Some.is at c.best_entry.ensures.0)

pub returns : goal.returns
returns c = nothing_found _ _ c.loop-i.invariant.4 (omega (arith, candidates_many c.args.listed.now.o.hand))
