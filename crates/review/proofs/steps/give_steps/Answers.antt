-- `review::steps::give_steps` meets its contract: every institute is marked and chooses. Assumes nothing.
use mathlib.Core.Path.{refl}
use Rattle.review.proofs.StepsChosen.{steps_given}
use Rattle.review.proofs.steps.give_steps.Goals as goal

pub returns : goal.returns
returns c = steps_given c.args.o.now.hand c.choose_all.ensures refl c.requires.asked_len.2
