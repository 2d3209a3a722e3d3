-- `offers::seats::seats_wanted` meets its contract: the loop keeps `SeatsWanted`. Assumes nothing.
use mathlib.Core.Path.{refl, sym, ◌∙◌}
use mathlib.Core.Logic.{◌≢◌}
use native.Mathlib.Omega.{arith}
use Rattle.std.proofs.lemmas.List.{length_push}
use Rattle.offers.proofs.Pairs.{pair_turn, pairs_end}
use Rattle.offers.proofs.Wanted.{one_unseated, one_wanted, all_wanted, arrays_many, seat_known, seat_least, seat_most}
use Rattle.offers.proofs.seats.seats_wanted.Goals as goal

pub step_category-category-requires : goal.step_category-category-requires
step_category-category-requires c =
    let a = c.args in
    let pair = pair_turn a.holders.now a.steps.now c.into_iter-i-iterator.result c.loop-i.i-iterator c.next.new.self (cc) (cc) (cc) c.loop-i.yielded c.loop-i.yielded_by _ c.next.ensures.steps c.in-Some.is in
    let held = c.from.ensures ∙ pair.first in
    let some : c.from.result ≢ 0 = λ z. c.if-holder-ne0.true (sym c.from.ensures ∙ z) in
    let step = c.from-then-holder-ne0.ensures ∙ pair.second in (
      seat_known a.o.now.hand c.requires.held_in pair.in_second held some,
      seat_least a.o.now.hand c.requires.held_in pair.in_second held some step,
      seat_most a.o.now.hand c.requires.held_in pair.in_second held some step,
    )

pub loop-i-preserved-then-holder-ne0 : goal.loop-i-preserved-then-holder-ne0
loop-i-preserved-then-holder-ne0 c =
    let a = c.args in
    let pair = pair_turn a.holders.now a.steps.now c.into_iter-i-iterator.result c.loop-i.i-iterator c.next.new.self (cc) (cc) (cc) c.loop-i.yielded c.loop-i.yielded_by _ c.next.ensures.steps c.in-Some.is in
    rw (length_push c.loop-i.yielded _, pair.place)
    (one_wanted c.loop-i.invariant pair.in_second (c.from.ensures ∙ pair.first) (c.from-then-holder-ne0.ensures ∙ pair.second) c.step_category-category.ensures c.set.ensures refl)

pub loop-i-preserved : goal.loop-i-preserved
loop-i-preserved c =
    let a = c.args in
    let pair = pair_turn a.holders.now a.steps.now c.into_iter-i-iterator.result c.loop-i.i-iterator c.next.new.self (cc) (cc) (cc) c.loop-i.yielded c.loop-i.yielded_by _ c.next.ensures.steps c.in-Some.is in
    rw (length_push c.loop-i.yielded _) (one_unseated c.loop-i.invariant pair.first c.if-holder-ne0.false refl)

pub returns : goal.returns
returns c =
    let a = c.args in
    let end = pairs_end a.holders.now a.steps.now c.into_iter-i-iterator.result c.loop-i.i-iterator c.next.new.self (cc) (cc) (cc) c.loop-i.yielded c.loop-i.yielded_by _ c.next.ensures.steps c.in-None.is in
    all_wanted c.loop-i.invariant _ (omega (arith, end, arrays_many a.o.now.hand c.requires.held_in))
