-- `questions::row::Row::all_differ` meets its contract: each entry is tested against those before it.
-- Assumes nothing.
use Rattle.std.proofs.Common.{rules}
use Rattle.lists.proofs.Iterators.{all_in_range}
use Rattle.questions.proofs.row.Row.all_differ.Goals as goal

pub returns : goal.returns
returns c = all_in_range _ c.len.ensures c.all.ensures.ran (λ x b q k. search rules)
