-- `reader::opened::Opened::candidate_marks` meets its contract: the second byte of the body.
-- Assumes nothing.
use native.Mathlib.Omega.{arith}
use Rattle.reader.proofs.Bodies.{body_long, marks_read}
use Rattle.reader.proofs.opened.Opened.candidate_marks.Goals as goal

pub bounds-candidate_body-1 : goal.bounds-candidate_body-1
bounds-candidate_body-1 c = omega (arith, body_long c.args.self.now.hand c.requires c.candidate_body.ensures)

pub returns : goal.returns
returns c = marks_read c.args.self.now.hand c.requires c.candidate_body.ensures
