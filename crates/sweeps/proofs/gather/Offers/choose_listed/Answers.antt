-- `sweeps::gather::Offers::choose_listed` meets its contract: what is chosen among the listed offers is the institute's choice. Assumes nothing.
use Rattle.std.proofs.Common.{rules, arith, ◌∙◌}
use Rattle.std.proofs.lemmas.Grind.{common_steps}
use Rattle.sweeps.proofs.ChoicesMade.{listed_chosen}
use Rattle.sweeps.proofs.gather.Offers.choose_listed.Goals as goal

pub returns : goal.returns
returns c =
    listed_chosen c.args.self.now.o.hand c.requires.j_lt_institutes _ _ c.gather-count.ensures.gathered _ _ (search rules) c.choose_into.ensures
    (rw c.steps.ensures.head at (c.rules_of-step_count.ensures.rules.rules_of ∙ c.steps.ensures.steps.steps_of))
    (grind (arith, common_steps, c.choose_into.auto.steps, c.gather-count.ensures.few)) (grind (arith, common_steps, c.choose_into.auto.used, c.gather-count.ensures.few))
