-- `choice::fill::fill` meets its contract: the loop keeps `Filled`. Assumes nothing.
use Prim.Native.Nat.{◌<◌}
use lib.ListN.{length}
use native.Mathlib.Omega.{arith}
use Rattle.choice.proofs.Fills.{none_filled, all_filled, by_type, by_merit_is, left_out, no_room}
use Rattle.choice.proofs.fill.fill.Goals.{then-kind-ne0, else-kind-ne0+then-filled-free+then-considers, else-kind-ne0+else-filled-free, else-filled-free-via-then-filled-free+else-considers, else-filled-free-via-else-filled-free}
use Rattle.choice.proofs.fill.fill.Goals as goal

pub loop-p-init : goal.loop-p-init
loop-p-init c = none_filled _ _ _ _ _ _ _

pub loop-p-preserved : goal.loop-p-preserved
loop-p-preserved c =
    let inside : c.loop-p.p < length c.args.steps.now = omega arith in
    elim c.if-kind-ne0.branch [
      | then-kind-ne0 w ↦ search by_type
      | else-kind-ne0+then-filled-free+then-considers w ↦ search by_merit_is
      | else-kind-ne0+else-filled-free w ↦
          elim w.else-filled-free.branch [
            | else-filled-free-via-then-filled-free+else-considers w' ↦ search left_out
            | else-filled-free-via-else-filled-free w' ↦ search no_room
          ]
    ]

pub returns : goal.returns
returns c = all_filled _ _ _ _ _ _ _ (omega arith) c.loop-p.invariant (omega arith)
