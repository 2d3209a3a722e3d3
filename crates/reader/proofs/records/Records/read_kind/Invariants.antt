use Rattle.questions.specs.Read.{as_head}
use Rattle.reader.proofs.Run.{Run}
use Rattle.reader.proofs.records.Records.read_kind.Given as goal

abbrev pub invariant-loop-start : goal.invariant-loop-start
invariant-loop-start l = Run l.self.file.now (as_head l.self.head) l.kind l.first l.count l.from l.start-index l.at l.start-items
