-- A file is read; it is refused, or the list is reviewed.
-- Assumes nothing.
use Rattle.std.proofs.lemmas.Result.{err_from_is_err_and}
use Rattle.review.proofs.Calling.{round_refused, round_called}
use Rattle.review.proofs.call.review.Goals as goal

pub returns-in_err-head : goal.returns-in_err-head
returns-in_err-head c =
    let p = err_from_is_err_and c.from_residual.result c.from_residual.ensures.1 in
    rw (p.1, p.2) (round_refused _ c.read_round.ensures c.in_err-head.was)

pub returns : goal.returns
returns c = round_called _ c.read_round.ensures c.in_ok-head.was c.unchanged.ensures.head c.unchanged.ensures.round c.review_round.ensures
