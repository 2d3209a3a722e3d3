-- `reader::opened::Opened::merit_place` meets its contract: the number of the body where the one at the place stands in the file.
-- Assumes nothing.
use Rattle.reader.proofs.Bodies.{list_inside, list_place}
use Rattle.reader.proofs.opened.Opened.merit_place.Goals as goal

pub merit_in-requires : goal.merit_in-requires
merit_in-requires c = list_inside c.args.self.now.hand c.requires.0 c.merit_body.ensures c.requires.1 c.stood.ensures

pub returns : goal.returns
returns c = list_place c.args.self.now.hand c.requires.0 c.merit_body.ensures c.requires.1 c.stood.ensures c.merit_in.ensures
