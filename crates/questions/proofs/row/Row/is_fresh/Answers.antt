-- `questions::row::Row::is_fresh` meets its contract: the entries before it are tested in turn.
-- Assumes nothing.
use Rattle.std.proofs.Common.{rules, refl}
use Rattle.lists.proofs.Iterators.{all_in_range}
use Rattle.questions.proofs.row.Row.is_fresh.Goals as goal

pub returns : goal.returns
returns c = all_in_range _ refl c.all.ensures.ran (λ x b q k. search rules)
