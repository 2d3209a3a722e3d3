-- `placing::placing::next_holder` meets its contract, by the last place that passes the test. Assumes nothing.
use Prim.Native.Nat.{suc}
use mathlib.Core.Path.{◌≡◌}
use lib.ListN.{get_or}
use borrow.Author.Rules.{rules}
use borrow.Author.Tests.{tests}
use Rattle.placing.specs.Search.{NothingToTry, SomeToTry}
use Rattle.placing.proofs.Holders.{last_found, sought_by}
use Rattle.placing.proofs.placing.next_holder.Goals as goal

pub returns : goal.returns
returns c =
    let a = c.args in
    sought_by a.marks.now a.placed.now a.visited.now a.t a.end c.find.result
    (last_found _ (λ h. (get_or a.placed.now h 0 ≡ suc a.t) × SomeToTry (get_or a.marks.now h 0) a.visited.now)
    (λ h. get_or a.placed.now h 0 ≡ suc a.t → NothingToTry (get_or a.marks.now h 0) a.visited.now) (λ x q k. search (rules, tests)) (λ x q k. search (rules, tests)) _ _ c.find.result 0 a.end (cc) c.find.ensures.ran)
