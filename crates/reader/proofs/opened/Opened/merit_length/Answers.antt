-- `reader::opened::Opened::merit_length` meets its contract: the numbers of the body.
-- Assumes nothing.
use mathlib.Core.Path.{sym}
use Rattle.reader.proofs.Bodies.{list_length}
use Rattle.reader.proofs.opened.Opened.merit_length.Goals as goal

pub returns : goal.returns
returns c = sym (list_length c.args.self.now.hand c.requires c.merit_body.ensures)
