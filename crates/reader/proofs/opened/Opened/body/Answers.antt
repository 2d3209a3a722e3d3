-- `reader::opened::Opened::body` meets its contract: the part between the lead bytes and the next record (proofs/Bodies.antt).
-- Assumes nothing.
use mathlib.Core.Path.{refl}
use native.Mathlib.Omega.{arith}
use Rattle.reader.proofs.Bodies.{body_there}
use Rattle.reader.proofs.opened.Opened.body.Goals as goal

pub word-requires : goal.word-requires
word-requires c = let o = c.args.self.now in omega (arith, body_there o.hand.accepted o.hand.table c.requires refl)

pub slice_bounds-result-end : goal.slice_bounds-result-end
slice_bounds-result-end c = let o = c.args.self.now in omega (arith, body_there o.hand.accepted o.hand.table c.requires refl)
