-- `reader::reader::read_round` meets its contract: the head, and what follows it (proofs/Rest.antt).
-- Assumes nothing.
use native.Mathlib.Omega.{arith}
use Rattle.std.proofs.lemmas.Result.{err_from_is_err_and}
use Rattle.reader.proofs.Rest.{round_refused, round_read, head_inside, head_room, head_range, head_low}
use Rattle.reader.proofs.reader.read_round.Goals as goal

pub returns-in_err-end : goal.returns-in_err-end
returns-in_err-end c =
    let p = err_from_is_err_and c.from_residual.result c.from_residual.ensures.1 in
    rw (p.1, p.2) (round_refused _ _ c.form_of-form.ensures c.unread.ensures.1 c.read.ensures _ c.in_err-end.was)

pub slice_bounds-head_in-end : goal.slice_bounds-head_in-end
slice_bounds-head_in-end c = omega (arith, head_inside _ _ c.form_of-form.ensures c.unread.ensures.1 c.read.ensures c.in_ok-end.was)

pub head_in-head-requires : goal.head_in-head-requires
head_in-head-requires c = head_room _ _ c.form_of-form.ensures c.unread.ensures.1 c.read.ensures c.in_ok-end.was

pub read_rest-requires-clause-from_in_bounds : goal.read_rest-requires-clause-from_in_bounds
read_rest-requires-clause-from_in_bounds c = (
  head_inside _ _ c.form_of-form.ensures c.unread.ensures.1 c.read.ensures c.in_ok-end.was,
  head_low _ _ c.form_of-form.ensures c.unread.ensures.1 c.read.ensures c.in_ok-end.was,
)

pub returns : goal.returns
returns c = round_read _ _ c.form_of-form.ensures c.unread.ensures.1 c.read.ensures c.in_ok-end.was c.head_in-head.ensures c.read_rest.ensures

pub invariant_of-read_rest : goal.invariant_of-read_rest
invariant_of-read_rest c = record { in_range = head_range _ _ c.form_of-form.ensures c.unread.ensures.1 c.read.ensures c.in_ok-end.was c.head_in-head.ensures }
