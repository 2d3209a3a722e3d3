-- `placing::placing::place` meets its contract: the loop over types keeps `Tried`, the loop over holders `Asked`, and every way out of both is `SearchEnded`.
-- The measure is the number of types that are not visited. Assumes nothing.
use Prim.Native.Nat.{ℕ}
use mathlib.Core.Path.{◌≡◌, ◌∙◌}
use lib.ListN.{length, length-set}
use native.Mathlib.Omega.{arith}
use Rattle.placing.specs.Left.{Left}
use Rattle.placing.proofs.PositionsLeft.{some_left, left_some, vacating}
use Rattle.placing.proofs.Visits.{SearchEnded, skip, done, pass, fail, clear, fewer, at_visited, cleared, finish, settled}
use Rattle.placing.proofs.placing.+place.Goals as goal
use Rattle.placing.proofs.placing.+place.Goals.{Left-loop-t}
use Rattle.placing.proofs.placing.+place.Goals.{then-loop-t-test+then-to_try+then-left-t-gt0, then-loop-t-test+then-to_try+else-left-t-gt0+in-Some+then-place, else-loop-t-test}
use Rattle.placing.proofs.placing.+place.Goals.{then-to_try+else-left-t-gt0+in_default, else-to_try}

pub place-requires : goal.place-requires
place-requires t c =
    let r = c.requires in
    let k = c.loop-t.invariant in
    let a = c.loop-h.invariant in
    let next = c.in-Some.ensures in
    let types : length c.loop-t.visited ≡ 8 = c.loop-t.auto.visited ∙ r.types in
    let types' : length c.loop-h.visited ≡ 8 = omega (arith, types, length-set c.loop-t.visited c.loop-t.t 1) in (
      omega (arith, c.decreases, fewer _ _ _ k.tried types r.few c.loop-t-test.true c.to_try.ensures c.if-to_try.true a.asked r.types types'),
      record {
        few = r.few;
        types = types';
        within = omega (arith, r.placing.each, next.within);
        placing = rw a.same r.placing;
        away = at_visited _ _ _ k.tried types r.few c.loop-t-test.true c.to_try.ensures c.if-to_try.true a.asked _ a.same next.holder;
        positions = rw a.same a.positions;
      },
    )

pub loop-h-preserved : goal.loop-h-preserved
loop-h-preserved t c =
    let a = c.loop-h.invariant in
    let next = c.in-Some.ensures in
    let s = c.place.ensures.stuck c.if-place.false in record {
      in_range = omega (arith, next.within, a.in_range);
      same = s.same ∙ a.same;
      positions = rw (s.same ∙ a.same) at c.place.ensures.positions;
      asked = fail _ _ _ (pass _ _ _ a.asked a.same c.requires.few next.passed) (omega arith) a.same s;
    }

pub loop-t-preserved : goal.loop-t-preserved
loop-t-preserved t c =
    let r = c.requires in
    let k = c.loop-t.invariant in
    let types : length c.loop-t.visited ≡ 8 = c.loop-t.auto.visited ∙ r.types in
    elim c.if-to_try.branch [
      | then-to_try+else-left-t-gt0+in_default w ↦
          let a = w.loop-h.invariant in rw (w.left-is, w.placed-is, w.visited-is) record {
            same = a.same;
            positions = a.positions;
            tried = finish _ _ _ k.tried types r.few c.loop-t-test.true c.to_try.ensures w.if-to_try.true a.asked
                a.same k.positions w.if-left-t-gt0.false w.in_default.ensures;
          }
      | else-to_try w ↦ rw (w.left-is, w.placed-is, w.visited-is) record {
        same = k.same;
        positions = k.positions;
        tried = skip _ _ _ k.tried c.to_try.ensures w.if-to_try.false;
      }
    ]

-- how the search ends, at every way out of the loops, and what is left then
ended : (t : ℕ) (c : Left-loop-t t) → let a = c.args in let out = c.loop-t-test in
    SearchEnded a.reserved.now a.marks.now a.visited.now out.visited a.placed.now out.placed a.c out.found × Left a.reserved.now out.left out.placed
ended t c =
    let r = c.requires in
    let k = c.loop-t.invariant in
    let types : length c.loop-t.visited ≡ 8 = c.loop-t.auto.visited ∙ r.types in
    elim c.loop-t-test.branch [
      | then-loop-t-test+then-to_try+then-left-t-gt0 w ↦ rw (w.left-is, w.placed-is, w.visited-is, w.found-is, k.same) (
        clear _ _ _ k.tried types r.few w.loop-t-test.true w.to_try.ensures w.if-to_try.true r.placing
            (some_left k.positions _ w.loop-t-test.true w.if-left-t-gt0.true),
        k.positions,
      )
      | then-loop-t-test+then-to_try+else-left-t-gt0+in-Some+then-place w ↦
          let a = w.loop-h.invariant in rw (w.left-is, w.placed-is, w.visited-is, w.found-is) (
            cleared _ _ _ k.tried types r.few w.loop-t-test.true w.to_try.ensures w.if-to_try.true a.asked
                a.same (omega (arith, w.in-Some.ensures.within)) r.placing w.in-Some.ensures.holder (w.place.ensures.found w.if-place.true),
            w.place.ensures.positions,
          )
      | else-loop-t-test w ↦ rw (w.left-is, w.placed-is, w.visited-is, w.found-is, k.same) (done _ _ _ k.tried w.loop-t-test.false, k.positions)
    ]

pub returns-in_default-found : goal.returns-in_default-found
returns-in_default-found t c =
    let (stuck, positions) = ended t (goal.at.returns-in_default-found t c).Left-loop-t in record {
      positions = positions;
      found = λ e. cc;
      stuck = λ e. rw c.in_default-found.is at stuck;
    }

pub settle-requires : goal.settle-requires
settle-requires t c =
    let (found, positions) = ended t (goal.at.settle-requires t c).Left-loop-t in
    let k = rw c.in-Some-found.is at found in (
      vacating k.placing positions c.args.c c.requires.within (λ u. (c.type_inv.reserved u).fits),
      omega (arith, k.below, c.requires.few),
      omega (arith, k.below, positions.each),
      left_some positions _ k.below k.room,
    )

pub returns : goal.returns
returns t c =
    let (found, positions) = ended t (goal.at.returns t c).Left-loop-t in
    settled c.requires.within c.requires.away (rw c.in-Some-found.is at found) positions c.settle.ensures.0 c.settle.ensures.1
