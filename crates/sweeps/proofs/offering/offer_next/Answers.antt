-- `sweeps::offering::offer_next` meets its contract: the entry that is read is offered. Assumes nothing.
use Rattle.std.proofs.Common.{rules}
use Rattle.sweeps.proofs.OffersMade.{tried_few, entry_least, entry_small, entry_inside, offer_made}
use Rattle.sweeps.proofs.offering.offer_next.Goals as goal

pub overflow_add-tried : goal.overflow_add-tried
overflow_add-tried c = search tried_few

pub overflow_cast-asked : goal.overflow_cast-asked
overflow_cast-asked c = search entry_small

pub overflow_sub-fresh : goal.overflow_sub-fresh
overflow_sub-fresh c = search entry_least

pub bounds-fresh-institute : goal.bounds-fresh-institute
bounds-fresh-institute c = search entry_inside

pub returns : goal.returns
returns c = search (rules, offer_made)
