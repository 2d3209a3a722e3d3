-- `sweeps::process::run_offers` meets its contract: the process starts from tables of zeros. Assumes nothing.
use Rattle.std.proofs.Common.{rules}
use Rattle.offers.proofs.Known.{places, places_many, places_zero}
use Rattle.sweeps.proofs.process.run_offers.Goals as goal

pub slice_bounds-tried-end : goal.slice_bounds-tried-end
slice_bounds-tried-end c = search (rules, places)

pub slice_bounds-sweep_all-end : goal.slice_bounds-sweep_all-end
slice_bounds-sweep_all-end c = search (rules, places_many)

pub slice_bounds-wanted-end : goal.slice_bounds-wanted-end
slice_bounds-wanted-end c = search (rules, places)

pub slice_bounds-sweep_all-end-2 : goal.slice_bounds-sweep_all-end-2
slice_bounds-sweep_all-end-2 c = search (rules, places_many)

pub sweep_all-count-requires : goal.sweep_all-count-requires
sweep_all-count-requires c = record { tried_value = (search places_zero, search rules, search rules, search places_many) }
