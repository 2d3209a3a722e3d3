-- `sweeps::scatter::scatter` meets its contract: the candidates passed have their steps. Assumes nothing.
use Rattle.std.proofs.Common.{rules, arith, refl, ◌≡◌, ◌<◌, ◌∙◌, length, get_or, length-append}
use Rattle.std.proofs.lemmas.Slice.Zip.{zip_turn, zip_end}
use Rattle.sweeps.proofs.Scatters.{none_scattered, scattered_inside, one_scattered}
use Rattle.sweeps.proofs.scatter.scatter.Goals as goal
use Rattle.sweeps.proofs.scatter.scatter.Goals.{After-from}

-- where the candidate and the step stand
module _ (c : After-from) where
  turn : (length c.loop-c.yielded < length c.args.who.now) × (c.from.result ≡ get_or c.args.who.now (length c.loop-c.yielded) 0) × (c.in-Some.field-0-1.now ≡ get_or c.args.chosen.now (length c.loop-c.yielded) 0)
  turn =
      let at = zip_turn c.args.who.now c.args.chosen.now _ c.into_iter-c-iterator.result c.loop-c.c-iterator c.next.new.self _ (search rules) (search rules) c.loop-c.yielded_by _ c.in-Some.is c.next.ensures.steps in
      (at.0, c.from.ensures ∙ at.2 0, at.3 0)

pub loop-c-init : goal.loop-c-init
loop-c-init c = none_scattered _ _ _

pub bounds-steps-from : goal.bounds-steps-from
bounds-steps-from c = omega (arith, (turn c).1, scattered_inside _ _ c.requires.1 refl (turn c).0 c.loop-c.invariant)

pub loop-c-preserved : goal.loop-c-preserved
loop-c-preserved c = rw (length-append c.loop-c.yielded _) (one_scattered _ _ c.requires.1 refl (turn c).0 c.loop-c.invariant (turn c).1 (turn c).2)

pub returns : goal.returns
returns c =
    let end = zip_end c.args.who.now c.args.chosen.now _ c.into_iter-c-iterator.result c.loop-c.c-iterator c.next.new.self _ (search rules) (search rules) c.loop-c.yielded_by c.in-None.is c.next.ensures.steps in
    let e : length c.loop-c.yielded ≡ length c.args.who.now = omega (arith, end, c.requires.0) in
    rw e at c.loop-c.invariant
