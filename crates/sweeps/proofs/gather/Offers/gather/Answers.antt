-- `sweeps::gather::Offers::gather` meets its contract: the offers at the places passed are listed. Assumes nothing.
use Rattle.std.proofs.Common.{rules, arith, ◌-◌, ◌<◌, ◌∙◌}
use Rattle.lists.proofs.Counting.{clash}
use Rattle.offers.proofs.Known.{candidates_few, institutes_few, merit_few, number_least, number_most}
use Rattle.sweeps.proofs.Gathers.{one_listed, one_left}
use Rattle.sweeps.proofs.gather.Offers.gather.Goals as goal
use Rattle.sweeps.proofs.gather.Offers.gather.Goals.{After-merit_place-c, then-set-ne0, then-placed, else-placed, else-set-ne0}

-- the candidate at the place is one of the round
candidate : (c : After-merit_place-c) → c.merit_place-c.result - 1 < c.args.self.now.o.head.candidates
candidate c = number_most c.args.self.now.o.hand c.requires.j_lt_institutes (omega arith) c.merit_place-c.ensures

pub loop-p-init : goal.loop-p-init
loop-p-init c = record {
  inside = omega (arith, institutes_few c.args.self.now.o.hand);
  few = omega (arith, merit_few c.args.self.now.o.hand c.requires.j_lt_institutes);
  so_far = search rules;
}

pub overflow_sub-c : goal.overflow_sub-c
overflow_sub-c c = number_least c.args.self.now.o.hand c.requires.j_lt_institutes (omega arith) c.merit_place-c.ensures

pub offer_to-set-requires : goal.offer_to-set-requires
offer_to-set-requires c = let l = (goal.at.offer_to-set-requires c).After-merit_place-c in (omega (arith, candidate l), omega (arith, candidate l))

pub overflow_cast-who : goal.overflow_cast-who
overflow_cast-who c = omega (arith, candidate (goal.at.overflow_cast-who c).After-merit_place-c, candidates_few c.args.self.now.o.hand)

pub candidate_marks-requires : goal.candidate_marks-requires
candidate_marks-requires c = candidate (goal.at.candidate_marks-requires c).After-merit_place-c

pub loop-p-preserved : goal.loop-p-preserved
loop-p-preserved c = record {
  inside = omega arith;
  few = omega arith;
  so_far = elim c.if-set-ne0.branch [
    | then-set-ne0 w ↦
        rw (w.count-is, w.who-is, w.marks-is, w.sets-is)
        (one_listed _ _ _ _ _ c.loop-p.invariant.so_far c.merit_place-c.ensures c.offer_to-set.ensures (merit_few c.args.self.now.o.hand c.requires.j_lt_institutes) (omega arith)
        w.candidate_marks.ensures w.if-set-ne0.true
        (λ told. w.places-is ∙ elim w.if-placed.branch [ then-placed w' ↦ w'.places-is | else-placed w' ↦ clash told w'.if-placed.false ]))
    | else-set-ne0 w ↦
        rw (w.count-is, w.who-is, w.marks-is, w.sets-is, w.places-is)
        (one_left _ _ _ _ _ c.loop-p.invariant.so_far c.merit_place-c.ensures c.offer_to-set.ensures w.if-set-ne0.false)
  ];
}
