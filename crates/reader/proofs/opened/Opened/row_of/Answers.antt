-- `reader::opened::Opened::row_of` meets its contract: the new row, or the part of the body behind code and marks.
-- Assumes nothing.
use native.Mathlib.Omega.{arith}
use Rattle.reader.proofs.Bodies.{body_long, row_in_body, row_instead}
use Rattle.reader.proofs.opened.Opened.row_of.Goals as goal
use Rattle.reader.proofs.opened.Opened.row_of.Goals.{then-replaces, else-replaces}

pub slice_bounds-bytes-count : goal.slice_bounds-bytes-count
slice_bounds-bytes-count c = omega (arith, body_long c.args.self.now.hand c.requires c.candidate_body.ensures)

pub slice_bounds-bytes-start : goal.slice_bounds-bytes-start
slice_bounds-bytes-start c = omega (arith, body_long c.args.self.now.hand c.requires c.candidate_body.ensures)

pub returns : goal.returns
returns c =
    elim c.if-replaces.branch [
      | then-replaces w ↦ rw w.bytes-is (row_instead c.args.self.now.hand c.requires c.replaces.ensures w.if-replaces.true)
      | else-replaces w ↦ rw w.bytes-is (row_in_body c.args.self.now.hand c.requires w.candidate_body.ensures c.replaces.ensures w.if-replaces.false)
    ]
