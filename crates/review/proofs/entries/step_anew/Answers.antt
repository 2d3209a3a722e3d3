-- `review::entries::step_anew` meets its contract: the step was 0 before the institute chose. Assumes nothing.
use native.Mathlib.Omega.{arith}
use lib.Seq.{get_or-set_same}
use Rattle.offers.proofs.Known.{candidates_many}
use Rattle.review.proofs.StepAnew.{step_anew}
use Rattle.review.proofs.entries.step_anew.Goals as goal

pub returns : goal.returns
returns c =
    let args = c.args in
    step_anew _ args.j args.offers.now.asked.now args.offers.now.wanted.now c.choose_anew.ensures args.i
    (omega (arith, c.requires.i_lt_candidates.0, candidates_many args.offers.now.o.hand))
    (get_or-set_same args.steps.now args.i 0 0 (omega (arith, c.requires.i_lt_candidates.0, c.requires.steps_len)))
