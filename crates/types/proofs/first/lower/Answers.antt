-- `types::first::lower` meets its contract: the loop keeps `Lowers`. Assumes nothing.
use native.Mathlib.Omega.{arith}
use Rattle.types.proofs.LowerFront.{last_small, leaves, untried, tries, missed, reached, skipped, returning, kept_last}
use Rattle.types.proofs.first.lower.Goals.{then-to_try+else-take_one, else-to_try}
use Rattle.types.proofs.first.lower.Goals as goal

pub vacate-requires : goal.vacate-requires
vacate-requires c = leaves c.requires (λ t. omega (arith, c.type_inv.room t))

pub loop-t-init : goal.loop-t-init
loop-t-init c = let (back, gone) = c.vacate.ensures in record { small = omega (arith, last_small c.requires, c.requires.some); lowers = untried c.requires gone back }

pub take_one-requires : goal.take_one-requires
take_one-requires c = tries c.requires c.vacate.ensures.1 c.loop-t.invariant.lowers (omega arith) c.mark_of.ensures

pub returns-then-take_one : goal.returns-then-take_one
returns-then-take_one c =
    reached c.requires c.vacate.ensures.1 c.loop-t.invariant.lowers (omega arith) c.mark_of.ensures c.to_try.ensures c.if-to_try.true
    c.take_one.ensures c.if-take_one.true

pub loop-t-preserved : goal.loop-t-preserved
loop-t-preserved c =
    let gone = c.vacate.ensures.1 in
    let k = c.loop-t.invariant.lowers in
    elim c.if-to_try.branch [
      | then-to_try+else-take_one w ↦ rw (w.left-is, w.marks-is, w.placed-is, w.exhausted-is) record {
        small = c.loop-t.invariant.small;
        lowers = missed c.requires gone k (omega arith) w.mark_of.ensures w.take_one.ensures w.if-take_one.false w.take_one.auto.exhausted;
      }
      | else-to_try w ↦ rw (w.left-is, w.marks-is, w.placed-is, w.exhausted-is) record {
        small = c.loop-t.invariant.small;
        lowers = skipped c.requires gone k c.to_try.ensures w.if-to_try.false;
      }
    ]

pub settle-requires : goal.settle-requires
settle-requires c = returning c.requires c.vacate.ensures.1 c.loop-t.invariant.lowers (omega arith) (omega (arith, c.requires.some))

pub returns : goal.returns
returns c =
    let (less, put) = c.settle.ensures in
    kept_last c.requires c.vacate.ensures.1 c.loop-t.invariant.lowers (omega arith) (omega (arith, c.requires.some)) less put
