-- `questions::institute::Steps::reserved_sum` meets its contract: the reserved positions are summed, and are too small and few to wrap.
-- Assumes nothing.
use Rattle.std.proofs.Common.{rules, refl}
use Rattle.lists.proofs.Iterators.{sum_in_range, sum_fits}
use Rattle.questions.proofs.institute.Steps.reserved_sum.Goals as goal

pub sum-requires-clause-fits : goal.sum-requires-clause-fits
sum-requires-clause-fits c = sum_fits c.map.ensures.source c.map.ensures.closure 8 (search rules) (λ x v q k. search rules)

pub returns : goal.returns
returns c = sum_in_range c.map.ensures.source c.map.ensures.closure _ refl c.sum.ensures.ran (λ x v q k. search rules)
