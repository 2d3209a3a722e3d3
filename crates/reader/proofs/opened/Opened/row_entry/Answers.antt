-- `reader::opened::Opened::row_entry` meets its contract: the entry in the bytes of the row.
-- Assumes nothing.
use Rattle.reader.proofs.Bodies.{row_inside, entry_read}
use Rattle.reader.proofs.opened.Opened.row_entry.Goals as goal

pub entry-requires : goal.entry-requires
entry-requires c = row_inside _ _ c.row_of.ensures c.requires.1

pub returns : goal.returns
returns c = entry_read _ _ c.row_of.ensures _ c.requires.1 c.entry.ensures
