-- The bytes are copied behind those that were put in.
-- Assumes nothing.
use mathlib.Core.Path.{refl, ap, ◌∙◌}
use lib.ListN.{length}
use lib.Seq.{length-sets}
use Rattle.text.proofs.Putting.{bytes_stored}
use Rattle.text.proofs.Text.put.Goals as goal

pub returns : goal.returns
returns c =
    let area = c.args.self.now.area.now in
    let at = c.args.self.now.len in
    let bytes = c.args.bytes.now in
    let stored = bytes_stored area bytes _ at _ c.copy_from_slice.ensures.after refl c.requires.room in
    record { stored = stored; next = refl; kept = ap length stored ∙ length-sets area at bytes; same = refl }
