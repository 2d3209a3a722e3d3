-- The number, then the byte, each behind its word, then the line's end.
-- Assumes nothing.
use Rattle.text.proofs.Putting.{put_then}
use Rattle.page.proofs.lines.put_refusal.Goals as goal

pub returns : goal.returns
returns c = put_then (put_then c.put_named.ensures c.put_named-2.ensures) c.put_line_end.ensures
