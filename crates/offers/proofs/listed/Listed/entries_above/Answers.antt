-- `offers::listed::Listed::entries_above` meets its contract: the seat is ranked where it names an institute and a step of it. Assumes nothing.
use mathlib.Core.Path.{◌≡◌}
use borrow.Author.Rules.{rules}
use Rattle.lists.specs.Numbers.{within}
use Rattle.offers.proofs.SeatsRanked.{above_no_institute, above_no_step, above_step}
use Rattle.offers.proofs.listed.Listed.entries_above.Goals as goal

pub returns-then-not-contains : goal.returns-then-not-contains
returns-then-not-contains c =
    let told : c.contains.result ≡ within 1 c.args.self.now.o.head.institutes c.institute-institute.result = search rules in search above_no_institute

pub returns-then-not-contains-2 : goal.returns-then-not-contains-2
returns-then-not-contains-2 c =
    let told : c.contains.result ≡ within 1 c.args.self.now.o.head.institutes c.institute-institute.result = search rules in
    let told-step : c.contains-2.result ≡ within 1 c.step_numbers.result c.step-step.result = search rules in
    search above_no_step

pub returns : goal.returns
returns c =
    let told : c.contains.result ≡ within 1 c.args.self.now.o.head.institutes c.institute-institute.result = search rules in
    let told-step : c.contains-2.result ≡ within 1 c.step_numbers.result c.step-step.result = search rules in
    search above_step
