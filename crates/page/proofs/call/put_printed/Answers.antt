-- An input above 65,536 bytes is refused by 16; any other is allotted in areas for the largest round, and its page or its refusal is put in.
-- Assumes nothing.
use borrow.Author.Rules.{rules}
use Rattle.page.proofs.Calling.{answered, printed_page, printed_line, printed_unread, refusal_fits}
use Rattle.page.proofs.call.put_printed.Goals as goal

pub put_refusal-requires : goal.put_refusal-requires
put_refusal-requires c = search (rules, refusal_fits)

pub returns-then-input-gt65536 : goal.returns-then-input-gt65536
returns-then-input-gt65536 c = search (rules, printed_unread)

pub put_answered-requires-clause-answered : goal.put_answered-requires-clause-answered
put_answered-requires-clause-answered c = search (rules, answered)

pub put_refusal-requires-in-Refused : goal.put_refusal-requires-in-Refused
put_refusal-requires-in-Refused c = search (rules, refusal_fits)

pub returns-in-Allotted : goal.returns-in-Allotted
returns-in-Allotted c = search (rules, printed_page)

pub returns-in-Refused : goal.returns-in-Refused
returns-in-Refused c = search (rules, printed_line)
