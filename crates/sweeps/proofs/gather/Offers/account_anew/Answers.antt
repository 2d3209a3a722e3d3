-- `sweeps::gather::Offers::account_anew` meets its contract: the types used are put into the table. Assumes nothing.
use Rattle.std.proofs.Common.{rules, arith, refl, ◌∙◌}
use Rattle.offers.proofs.Known.{candidates_many}
use Rattle.sweeps.proofs.ChoicesMade.{who_apart, types_put}
use Rattle.sweeps.proofs.gather.Offers.account_anew.Goals as goal

pub scatter-requires : goal.scatter-requires
scatter-requires c = (search rules, who_apart c.choose_listed-count.ensures (candidates_many c.args.self.now.o.hand ∙ omega arith) (search rules))

pub returns : goal.returns
returns c = record {
  typed = types_put c.choose_listed-count.ensures refl (search rules) c.scatter.ensures;
  numbers = c.choose_listed-count.ensures.noted_as refl _ c.place_closings.ensures;
}
