-- `sweeps::gather::Offers::choose_anew` meets its contract: the steps chosen are put into the table. Assumes nothing.
use Rattle.std.proofs.Common.{rules, arith, ◌∙◌}
use Rattle.offers.proofs.Known.{candidates_many}
use Rattle.sweeps.proofs.ChoicesMade.{who_apart, steps_put}
use Rattle.sweeps.proofs.gather.Offers.choose_anew.Goals as goal

pub scatter-requires : goal.scatter-requires
scatter-requires c = (search rules, who_apart c.choose_listed-count.ensures (candidates_many c.args.self.now.o.hand ∙ omega arith) (search rules))

pub returns : goal.returns
returns c = steps_put c.choose_listed-count.ensures (search rules) c.scatter.ensures
