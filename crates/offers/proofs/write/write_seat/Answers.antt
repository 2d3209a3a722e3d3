-- The seat is stored in the form of the file.
-- Assumes nothing.
use Prim.Native.Nat.{◌+◌, ◌*◌}
use mathlib.Core.Path.{refl, ◌∙◌}
use Rattle.questions.specs.declared.form.Form.TheVariants.{Wide}
use Rattle.offers.specs.Areas.{seat_bytes}
use Rattle.offers.proofs.SeatBytes.{wide_bytes}
use Rattle.offers.proofs.SeatsPut.{part_copied, wide_seat_lem}
use Rattle.offers.proofs.write.write_seat.Goals as goal

pub returns-in-Wide : goal.returns-in-Wide
returns-in-Wide c =
    wide_seat_lem c.args.i _ c.args.area.now c.in-Wide.is
    (part_copied c.args.area.now (seat_bytes Wide (record { institute = c.args.institute; step = c.args.step })) (4 * c.args.i) (4 * c.args.i + 4)
    (c.copy_from_slice-in-Wide.ensures.after ∙ rw c.to_le_bytes.ensures refl) refl (wide_bytes c.args.i _ c.requires.form_in_bounds.0 c.in-Wide.is))
