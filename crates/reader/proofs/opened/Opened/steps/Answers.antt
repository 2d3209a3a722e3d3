-- `reader::opened::Opened::steps` meets its contract: the records of the institutes stand behind the head (proofs/Bodies.antt).
-- Assumes nothing.
use Rattle.reader.proofs.Bodies.{institute_read}
use Rattle.reader.proofs.opened.Opened.steps.Goals as goal

pub invariant_of-result : goal.invariant_of-result
invariant_of-result c = record { whole = (institute_read c.args.self.now.hand c.requires c.body.ensures).lawful.long }

pub returns-clause-steps : goal.returns-clause-steps
returns-clause-steps c = institute_read c.args.self.now.hand c.requires c.body.ensures
