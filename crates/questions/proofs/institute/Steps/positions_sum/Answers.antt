-- `questions::institute::Steps::positions_sum` meets its contract: the positions are summed, and are too small and few to wrap.
-- Assumes nothing.
use Rattle.std.proofs.Common.{rules}
use Rattle.lists.proofs.Iterators.{sum_in_range, sum_fits}
use Rattle.questions.proofs.institute.Steps.positions_sum.Goals as goal

pub sum-requires-clause-fits : goal.sum-requires-clause-fits
sum-requires-clause-fits c = sum_fits c.map.ensures.source c.map.ensures.closure 12 (search rules) (λ x v q k. search rules)

pub returns : goal.returns
returns c = sum_in_range c.map.ensures.source c.map.ensures.closure _ c.count.ensures c.sum.ensures.ran (λ x v q k. search rules)
