-- `questions::merit::all_unseen` meets its contract: the table has the numbers passed, and these are all different.
-- Assumes nothing.
use Rattle.questions.proofs.Seen.{read_again, read_more, seen_none}
use Rattle.questions.proofs.merit.all_unseen.Goals as goal

pub loop-p-init : goal.loop-p-init
loop-p-init c = seen_none _

pub returns-then-seen-number : goal.returns-then-seen-number
returns-then-seen-number c = search read_again

pub loop-p-preserved : goal.loop-p-preserved
loop-p-preserved c = search read_more
