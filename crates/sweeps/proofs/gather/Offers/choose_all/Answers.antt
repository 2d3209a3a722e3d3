-- `sweeps::gather::Offers::choose_all` meets its contract: the institutes passed have chosen if they got an offer. Assumes nothing.
use Rattle.std.proofs.Common.{ℕ, List, arith, ◌≡◌, ◌≤◌, length, get_or, take, sym, ◌∙◌, get_or-take}
use lib.Seq.{length-take-le}
use Rattle.offers.proofs.Known.{institutes_few}
use Rattle.sweeps.proofs.Choices.{one_chosen, one_spared}
use Rattle.sweeps.proofs.gather.Offers.choose_all.Goals as goal
use Rattle.sweeps.proofs.gather.Offers.choose_all.Goals.{then-mark-ne0, else-mark-ne0}

-- there is a mark for each institute
marks : (n : ℕ) (fresh : List ℕ) → n ≤ 1000 → length fresh ≡ 1000 → n ≡ length (take n fresh)
marks n fresh few many = sym (length-take-le n fresh (omega arith))

pub slice_bounds-mark-items-end : goal.slice_bounds-mark-items-end
slice_bounds-mark-items-end c = marks _ _ (institutes_few c.args.self.now.o.hand) (omega arith)

pub loop-j-preserved : goal.loop-j-preserved
loop-j-preserved c =
    let many = marks _ _ (institutes_few c.args.self.now.o.hand) c.requires.steps_len.1 in
    let here : get_or (take c.args.self.now.o.head.institutes c.args.fresh.now) c.loop-j.j 0 ≡ get_or c.args.fresh.now c.loop-j.j 0 = get_or-take c.args.self.now.o.head.institutes c.args.fresh.now c.loop-j.j 0 (omega (arith, many)) in
    elim c.if-mark-ne0.branch [
      | then-mark-ne0 w ↦ rw w.steps-is (one_chosen _ _ _ _ _ c.loop-j.invariant (λ z. w.if-mark-ne0.true (here ∙ z)) w.choose_anew.ensures)
      | else-mark-ne0 w ↦ rw w.steps-is (one_spared _ _ _ _ _ c.loop-j.invariant (sym here ∙ w.if-mark-ne0.false))
    ]

pub returns : goal.returns
returns c =
    let many = marks _ _ (institutes_few c.args.self.now.o.hand) c.requires.steps_len.1 in
    let e : c.loop-j.j ≡ c.args.self.now.o.head.institutes = omega (arith, many) in
    rw e at c.loop-j.invariant
