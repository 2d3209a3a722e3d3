-- `choice::account::place_closings` meets its contract. Assumes nothing.
use Rattle.choice.proofs.Noted.{all_placed}
use Rattle.choice.proofs.account.place_closings.Goals as goal

pub returns : goal.returns
returns c = all_placed c.loop-numbers.invariant c.loop-numbers-test.false
