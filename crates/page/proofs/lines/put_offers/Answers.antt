-- The word and the number, then the line's end.
-- Assumes nothing.
use Rattle.text.proofs.Putting.{put_then}
use Rattle.page.proofs.lines.put_offers.Goals as goal

pub returns : goal.returns
returns c = put_then c.put_named.ensures c.put_line_end.ensures
