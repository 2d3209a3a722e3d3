-- `review::entries::best_entry` meets its contract: no entry passed would be chosen. Assumes nothing.
use mathlib.Core.Path.{refl, ◌∙◌}
use native.Mathlib.Omega.{arith}
use borrow.Author.Rules.{rules}
use Rattle.offers.proofs.FirstFound.{none_passed, one_failed}
use Rattle.review.proofs.EntriesAbove.{read_still, place_fits, best_found, none_better}
use Rattle.review.proofs.entries.best_entry.Goals as goal

pub loop-k-init : goal.loop-k-init
loop-k-init c = (omega arith, refl, refl, c.requires.i_lt_candidates.1, none_passed _)

pub would_take-requires-clause-all_read : goal.would_take-requires-clause-all_read
would_take-requires-clause-all_read c = read_still c.requires.all_read c.loop-k.invariant.1 c.loop-k.invariant.2

pub would_take-requires-clause-i_lt_candidates : goal.would_take-requires-clause-i_lt_candidates
would_take-requires-clause-i_lt_candidates c =
    (c.requires.i_lt_candidates.0, place_fits _ _ c.args.i c.entries_above-k-end.ensures c.loop-k.invariant.4 c.loop-k-test.true, c.loop-k.invariant.3)

pub row_entry-requires : goal.row_entry-requires
row_entry-requires c = (c.requires.i_lt_candidates.0, place_fits _ _ c.args.i c.entries_above-k-end.ensures c.loop-k.invariant.4 c.loop-k-test.true)

pub returns-then-would_take : goal.returns-then-would_take
returns-then-would_take c = (
  best_found _ _ c.args.i c.entries_above-k-end.ensures c.loop-k.invariant.4 c.loop-k-test.true c.would_take.ensures.0 c.if-would_take.true c.row_entry.ensures,
  c.would_take.ensures.1 ∙ c.loop-k.invariant.1,
  c.would_take.ensures.2 ∙ c.loop-k.invariant.2,
)

pub loop-k-preserved : goal.loop-k-preserved
loop-k-preserved c = (
  omega arith,
  c.would_take.ensures.1 ∙ c.loop-k.invariant.1,
  c.would_take.ensures.2 ∙ c.loop-k.invariant.2,
  search rules,
  one_failed _ c.loop-k.invariant.4 c.would_take.ensures.0 c.if-would_take.false,
)

pub returns : goal.returns
returns c = (none_better _ _ c.args.i c.entries_above-k-end.ensures c.loop-k.invariant.4 (omega arith), c.loop-k.invariant.1, c.loop-k.invariant.2)
