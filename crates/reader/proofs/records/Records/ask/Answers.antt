-- `reader::records::Records::ask` meets its contract: the first four questions, and then those of the body behind the lead bytes.
-- Assumes nothing.
use native.Mathlib.Omega.{arith}
use Rattle.std.proofs.lemmas.Result.{err_from_is_err_and}
use Rattle.questions.specs.Read.{as_head}
use Rattle.reader.proofs.Found.{found, found_refused, body_allowed, record_found, record_refused, found_inside}
use Rattle.reader.proofs.records.Records.ask.Goals as goal

pub returns-in_err-end : goal.returns-in_err-end
returns-in_err-end c =
    let p = err_from_is_err_and c.from_residual.result c.from_residual.ensures.1 in
    rw (p.1, p.2) (found_refused _ _ _ _ c.find.ensures c.in_err-end.was)

pub slice_bounds-ask_body-end : goal.slice_bounds-ask_body-end
slice_bounds-ask_body-end c = omega (arith, found_inside _ (as_head c.args.self.now.head) c.args.kind _ c.find.ensures c.in_ok-end.was)

pub ask_body-requires : goal.ask_body-requires
ask_body-requires c = body_allowed _ (as_head c.args.self.now.head) c.args.kind _ (found _ _ _ _ c.find.ensures c.in_ok-end.was)

pub returns-in_err-ask_body : goal.returns-in_err-ask_body
returns-in_err-ask_body c =
    let p = err_from_is_err_and c.from_residual-in_err-ask_body.result c.from_residual-in_err-ask_body.ensures.1 in
    rw (p.1, p.2) (record_refused _ _ _ _ (found _ _ _ _ c.find.ensures c.in_ok-end.was) _ c.ask_body.ensures c.in_err-ask_body.was)

pub returns : goal.returns
returns c = record_found _ _ _ _ (found _ _ _ _ c.find.ensures c.in_ok-end.was) _ c.ask_body.ensures c.in_ok-ask_body.was
