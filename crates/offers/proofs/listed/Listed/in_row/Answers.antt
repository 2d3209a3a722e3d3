-- `offers::listed::Listed::in_row` meets its contract. Assumes nothing.
use Rattle.offers.proofs.SeatsRanked.{in_row_by}
use Rattle.offers.proofs.listed.Listed.in_row.Goals as goal

pub returns : goal.returns
returns c = search in_row_by
