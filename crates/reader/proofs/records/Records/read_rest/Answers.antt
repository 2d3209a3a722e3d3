-- `reader::records::Records::read_rest` meets its contract: the three kinds in a row, put together (proofs/Rest.antt).
-- Assumes nothing.
use Rattle.std.proofs.lemmas.Result.{err_from_is_err_and}
use Rattle.reader.proofs.Rest.{lists_refused, more_refused, rest_read}
use Rattle.reader.proofs.records.Records.read_rest.Goals as goal

pub returns-in_err-end : goal.returns-in_err-end
returns-in_err-end c =
    let p = err_from_is_err_and c.from_residual-in_err-end.result c.from_residual-in_err-end.ensures.1 in
    rw (p.1, p.2) (lists_refused _ _ _ c.read_kind.ensures c.in_ok-rows.was c.read_kind-2.ensures c.in_ok-lists.was c.read_kind-3.ensures _ c.in_err-end.was)

pub returns-then-end-self : goal.returns-then-end-self
returns-then-end-self c =
    rest_read _ _ _ c.read_kind.ensures c.in_ok-rows.was c.read_kind-2.ensures c.in_ok-lists.was c.read_kind-3.ensures c.in_ok-end.was c.if-end-self.true

pub returns-else-end-self : goal.returns-else-end-self
returns-else-end-self c =
    more_refused _ _ _ c.read_kind.ensures c.in_ok-rows.was c.read_kind-2.ensures c.in_ok-lists.was c.read_kind-3.ensures c.in_ok-end.was _ c.if-end-self.false
