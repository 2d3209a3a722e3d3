-- A word is put in, then a number.
-- Assumes nothing.
use Rattle.text.proofs.Putting.{put_then}
use Rattle.text.proofs.Text.put_named.Goals as goal

pub returns : goal.returns
returns c = put_then c.put.ensures c.put_next.ensures
