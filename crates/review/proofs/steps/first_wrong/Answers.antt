-- `review::steps::first_wrong` meets its contract: the test is that of the definition. Assumes nothing.
use mathlib.Core.Path.{refl}
use borrow.Author.Rules.{rules}
use Rattle.offers.proofs.FirstFound.{find_in_range}
use Rattle.review.proofs.steps.first_wrong.Goals as goal

pub returns : goal.returns
returns c = find_in_range _ _ _ _ refl c.find.ensures.ran (λ x b q k. search rules)
