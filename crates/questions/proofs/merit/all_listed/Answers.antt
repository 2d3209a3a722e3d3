-- `questions::merit::all_listed` meets its contract: each number is tested.
-- Assumes nothing.
use Rattle.std.proofs.Common.{rules, refl}
use Rattle.lists.proofs.Iterators.{all_in_range}
use Rattle.questions.proofs.merit.all_listed.Goals as goal

pub returns : goal.returns
returns c = all_in_range _ refl c.all.ensures.ran (λ x b q k. search rules)
