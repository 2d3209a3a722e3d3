-- What is put in from the front stands there.
-- Assumes nothing.
use borrow.Author.Rules.{rules}
use Rattle.text.proofs.Putting.{front_put}
use Rattle.page.proofs.call.put_page.Goals as goal

pub returns : goal.returns
returns c = let p = front_put c.new-text.ensures.len c.put_printed.ensures in search rules
