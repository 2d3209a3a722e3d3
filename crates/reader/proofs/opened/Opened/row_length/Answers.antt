-- `reader::opened::Opened::row_length` meets its contract: the entries in the bytes of the row.
-- Assumes nothing.
use Rattle.reader.proofs.Bodies.{row_count}
use Rattle.reader.proofs.opened.Opened.row_length.Goals as goal

pub returns : goal.returns
returns c = row_count _ _ c.row_of.ensures c.len.ensures
