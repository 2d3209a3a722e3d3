-- `review::entries::would_take` meets its contract: the step that is given where the entry is added takes it or not. Assumes nothing.
use mathlib.Core.Path.{◌∙◌}
use Rattle.offers.proofs.Known.{candidates_many}
use Rattle.review.proofs.EntriesAbove.{institute_least, institute_inside, step_numbered, would_be_taken}
use borrow.Author.Rules.{rules}
use Rattle.review.proofs.entries.would_take.Goals as goal

pub overflow_sub-j : goal.overflow_sub-j
overflow_sub-j c =
    let inside = c.requires.i_lt_candidates in
    institute_least c.args.listed.now.o.hand inside.0 inside.1 c.row_entry-entry.ensures

pub step_with-step-requires-clause-i_lt_candidates : goal.step_with-step-requires-clause-i_lt_candidates
step_with-step-requires-clause-i_lt_candidates c =
    let inside = c.requires.i_lt_candidates in
    (inside.0, institute_inside c.args.listed.now.o.hand inside.0 inside.1 c.row_entry-entry.ensures)

pub step_with-step-requires-clause-asked_len : goal.step_with-step-requires-clause-asked_len
step_with-step-requires-clause-asked_len c =
    let many = candidates_many c.args.listed.now.o.hand in
    (c.requires.all_read.asked_many ∙ many, c.requires.all_read.wanted_many ∙ many, c.requires.i_lt_candidates.2)

pub takes-requires : goal.takes-requires
takes-requires c =
    let hand = c.args.listed.now.o.hand in
    let inside = c.requires.i_lt_candidates in
    let reads = c.row_entry-entry.ensures in
    record { j_lt_institutes = (institute_inside hand inside.0 inside.1 reads, step_numbered hand inside.0 inside.1 reads _ c.step_with-step.ensures.0 c.from.ensures) }

pub returns : goal.returns
returns c =
    let inside = c.requires.i_lt_candidates in (
      would_be_taken c.args.listed.now.o.hand inside.0 inside.1 c.row_entry-entry.ensures c.requires.all_read c.step_with-step.ensures.0 c.from.ensures c.takes.ensures,
      search rules,
      search rules,
    )
