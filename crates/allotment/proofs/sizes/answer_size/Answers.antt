-- The bytes of the answer area, by the form, with those of the closing places.
-- Assumes nothing.
use native.Mathlib.Omega.{arith}
use Rattle.allotment.proofs.Files.AreaSeats.{closings_few}
use Rattle.allotment.proofs.sizes.answer_size.Goals as goal

pub overflow_mul-closings : goal.overflow_mul-closings
overflow_mul-closings c = omega (arith, closings_few _ c.closing_width.ensures c.requires.1)

pub overflow_add-result : goal.overflow_add-result
overflow_add-result c = omega (arith, closings_few _ c.closing_width.ensures c.requires.1)

pub overflow_add-result-in-Wide : goal.overflow_add-result-in-Wide
overflow_add-result-in-Wide c = omega (arith, closings_few _ c.closing_width.ensures c.requires.1)
