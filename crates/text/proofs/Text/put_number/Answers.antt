-- The digits of a number are put in.
-- Assumes nothing.
use borrow.Author.Rules.{rules}
use Rattle.text.proofs.Decimals.{digits_fit, digits_put}
use Rattle.text.proofs.Text.put_number.Goals as goal

pub put-requires : goal.put-requires
put-requires c = search (rules, digits_fit)

pub returns : goal.returns
returns c = search (rules, digits_put)
