-- The numbers are those of a judgement that keeps the promise.
-- Assumes nothing.
use borrow.Author.Rules.{rules}
use Rattle.tazbilk.proofs.UnitsList.{units_list_lem}
use Rattle.tazbilk.proofs.reviewing.tazbilk_review.Goals as goal

pub returns : goal.returns
returns c = search (rules, units_list_lem)
