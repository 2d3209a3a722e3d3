use Rattle.questions.proofs.Seen.{Seen}
use Rattle.questions.specs.Questions.{merit_in}
use Rattle.questions.proofs.merit.all_unseen.Given as goal

abbrev pub invariant-loop-p : goal.invariant-loop-p
invariant-loop-p l = Seen (merit_in l.body) l.p l.seen
