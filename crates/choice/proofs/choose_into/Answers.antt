-- `choice::choose_into` meets its contract: each turn of the loop is a step of the definition. Assumes nothing.
use Prim.Native.Nat.{◌<◌}
use mathlib.Core.Path.{refl, ◌∙◌}
use native.Mathlib.Omega.{arith}
use lib.Seq.{length_front}
use Rattle.choice.proofs.Choosing.{no_rule, step_advances, set_out, go_on, arrive}
use borrow.Author.Rules.{rules}
use Rattle.lists.proofs.Counting.{clash}
use Rattle.choice.proofs.choose_into.Goals.{then-told, else-told}
use Rattle.choice.proofs.choose_into.Goals as goal

pub loop-k-init : goal.loop-k-init
loop-k-init c = (refl, refl, set_out c.requires.places (search rules) (search rules) c.requires.noted_value)

pub loop-k-preserved : goal.loop-k-preserved
loop-k-preserved c =
    let a = c.args in
    let l = c.loop-k in
    let table = c.requires.rule_table in
    let k : l.k < 12 = omega arith in (
      refl,
      length_front l.placed c.step-numbers.new.placed _ c.step-numbers.auto.placed ∙ l.invariant.1,
      go_on c.loop-k-test.true k l.invariant.2 c.step-numbers.auto.steps c.step-numbers.auto.used
          (step_advances a.types l.k _ (table.types_most, k, table.handed_on l.k no_rule c.loop-k-test.true, table.own_most l.k no_rule c.loop-k-test.true)
          l.invariant.2.handing a.first a.marks.now a.offers.now l.steps l.used c.step-numbers.ensures)
          (λ asked. elim c.if-told.branch [ then-told w ↦ w.noted-is | else-told w ↦ clash asked w.if-told.false ]),
    )

pub returns : goal.returns
returns c = arrive c.loop-k-test.false c.loop-k.invariant.2
