-- The closing places of every institute are stored. The invariant: the area with those of the institutes passed put in.
-- Assumes nothing.
use mathlib.Core.Path.{refl, sym, ◌∙◌}
use native.Mathlib.Omega.{arith}
use Rattle.reader.proofs.Bodies.{opened_listed}
use Rattle.offers.proofs.Known.{institutes_few}
use Rattle.offers.proofs.Wanted.{holders_each, wanted_each}
use Rattle.sweeps.proofs.AccountsNoted.{types_each, none_noted, one_noted, numbers_same, all_noted}
use Rattle.allotment.proofs.Files.AreaSeats.{closings_inside}
use Rattle.allotment.proofs.Files.Putting.{institute_put, institutes_put}
use Rattle.allotment.proofs.areas.Seated.write_each.Goals as goal

pub loop-j-init : goal.loop-j-init
loop-j-init c =
    let hand = c.args.self.now.o.hand in
    let flag = c.own_steps-listed.ensures ∙ sym (opened_listed hand) in
    record {
      few = omega arith;
      many = institutes_few hand;
      flag = flag;
      wide = c.closing_width-width.ensures;
      room = rw (c.closing_width-width.ensures, flag) c.requires.closings_len;
      noted = none_noted hand c.requires.types_value;
      closings = refl;
    }

pub invariant_of-offers : goal.invariant_of-offers
invariant_of-offers c =
    let hand = c.args.self.now.o.hand in
    let held = c.args.self.now.held in
    record { each = (holders_each hand held, wanted_each hand held c.requires.wanted) }

pub account_anew-noted-requires-clause-types_len : goal.account_anew-noted-requires-clause-types_len
account_anew-noted-requires-clause-types_len c = types_each c.args.self.now.o.hand c.loop-j.invariant.noted

pub loop-j-preserved : goal.loop-j-preserved
loop-j-preserved c =
    let inv = c.loop-j.invariant in
    let hand = c.args.self.now.o.hand in
    let held = c.args.self.now.held in
    record {
      few = omega arith;
      many = inv.many;
      flag = inv.flag;
      wide = inv.wide;
      room = inv.room;
      noted = one_noted hand held c.requires.wanted (omega arith) inv.noted c.account_anew-noted.ensures;
      closings = institute_put _ inv.flag inv.wide _ _ inv.closings (numbers_same hand held c.requires.wanted (omega arith) c.account_anew-noted.ensures) c.write_institute.ensures
          (omega (arith, closings_inside _ inv.wide c.loop-j-test.true, inv.room, c.loop-j.auto.closings));
    }

pub returns-clause-types : goal.returns-clause-types
returns-clause-types c = all_noted c.args.self.now.o.hand c.args.self.now.held (omega arith) c.loop-j.invariant.noted

pub returns-clause-closings : goal.returns-clause-closings
returns-clause-closings c =
    let inv = c.loop-j.invariant in
    institutes_put _ inv.flag inv.wide _ inv.room (omega arith) inv.closings
