-- `reader::opened::Opened::unchanged` meets its contract: nothing is changed. Assumes nothing.
use Rattle.reader.proofs.Bodies.{own_round}
use Rattle.reader.proofs.opened.Opened.unchanged.Goals as goal

pub returns-clause-round : goal.returns-clause-round
returns-clause-round c = own_round _ _
