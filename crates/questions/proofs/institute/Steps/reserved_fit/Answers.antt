-- `questions::institute::Steps::reserved_fit` meets its contract: each step is tested.
-- Assumes nothing.
use Rattle.std.proofs.Common.{rules}
use Rattle.lists.proofs.Iterators.{all_in_range}
use Rattle.questions.proofs.institute.Steps.reserved_fit.Goals as goal

pub returns : goal.returns
returns c = all_in_range _ c.count.ensures c.all.ensures.ran (λ x b q k. search rules)
