-- `review::steps::is_wrong` meets its contract: the tests are those of the definition. Assumes nothing.
use mathlib.Core.Logic.{⊎_elim}
use Rattle.review.proofs.WrongSeats.{nothing_wrong, no_seat_lem, some_institute, some_step, wrong_unoffered, wrong_stepped}
use borrow.Author.Tests.{ne_eqb}
use borrow.Author.Rules.{rules}
use Rattle.review.proofs.steps.is_wrong.Goals as goal

pub returns-then-step-eq0 : goal.returns-then-step-eq0
returns-then-step-eq0 c = search (nothing_wrong, no_seat_lem)

pub returns-then-asked-i-eq0 : goal.returns-then-asked-i-eq0
returns-then-asked-i-eq0 c = wrong_unoffered _ _ _ _ _ (⊎_elim (λ w. search (some_step, ne_eqb)) (λ w. search some_institute) c.else-institute-eq0.either) c.if-asked-i-eq0.true

pub returns-else-asked-i-eq0 : goal.returns-else-asked-i-eq0
returns-else-asked-i-eq0 c =
    wrong_stepped _ _ _ _ _ (⊎_elim (λ w. search (some_step, ne_eqb)) (λ w. search some_institute) c.else-institute-eq0.either) (search rules) c.from.ensures
    c.step-step.ensures.0
