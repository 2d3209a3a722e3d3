-- `questions::merit::ask_merit` meets its contract: numbers of candidates have a place in the table.
-- Assumes nothing.
use Rattle.questions.proofs.Seen.{listed_small}
use Rattle.questions.proofs.merit.ask_merit.Goals as goal

pub all_unseen-requires : goal.all_unseen-requires
all_unseen-requires c = search listed_small
