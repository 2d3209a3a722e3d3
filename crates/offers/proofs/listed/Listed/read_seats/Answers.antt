-- `offers::listed::Listed::read_seats` meets its contract: the seats passed are read. Assumes nothing.
use native.Mathlib.Omega.{arith}
use Rattle.choice.proofs.Steps.{sized}
use Rattle.offers.proofs.SeatsReading.{none_read, one_skipped, one_read, row_institute_least, row_step_known}
use Rattle.offers.proofs.listed.Listed.read_seats.Goals.{then-in_row, else-in_row}
use Rattle.offers.proofs.listed.Listed.read_seats.Goals as goal

pub loop-i-init : goal.loop-i-init
loop-i-init c =
    let l = c.args.self.now in
    (omega arith, sized l.o.head.candidates c.requires.0, none_read l.o.hand l.under_review c.requires.0 c.requires.1)

pub overflow_sub-institute : goal.overflow_sub-institute
overflow_sub-institute c =
    let l = c.args.self.now in
    row_institute_least l.o.hand l.under_review (omega arith) c.in_row.ensures c.institute-institute.ensures.0 c.if-in_row.true

pub step_category-category-requires : goal.step_category-category-requires
step_category-category-requires c =
    let l = c.args.self.now in
    row_step_known l.o.hand l.under_review (omega arith) c.in_row.ensures c.institute-institute.ensures.0 c.if-in_row.true c.step.ensures.0

pub loop-i-preserved : goal.loop-i-preserved
loop-i-preserved c =
    let l = c.args.self.now in (
      omega arith,
      c.loop-i.invariant.1,
      elim c.if-in_row.branch [
        | then-in_row w ↦
            one_read l.o.hand l.under_review (omega arith) c.in_row.ensures c.loop-i.invariant.2 w.if-in_row.true w.institute-institute.ensures.0 w.step.ensures.0
            w.step_category-category.ensures w.set.ensures w.asked-is w.wanted-is
        | else-in_row w ↦ one_skipped l.o.hand l.under_review (omega arith) c.in_row.ensures c.loop-i.invariant.2 w.if-in_row.false w.asked-is w.wanted-is
      ],
    )
