use Rattle.std.proofs.lemmas.Result.{err_from_is_err_and}
use Rattle.client_multi.proofs.Wants.{is_want}
use Rattle.client_multi.proofs.multi_stream.one_stream.LinkOneStream.cancel.Goals as goal

pub returns-in_err-cancel_below-clause-want : goal.returns-in_err-cancel_below-clause-want
returns-in_err-cancel_below-clause-want g c =
    let arm = c.in_err-cancel_below in
    let p = err_from_is_err_and c.from_residual.result c.from_residual.ensures.1 in
    rw (p.1, p.2) (is_want _ _ _ arm.was arm.ensures.holds.refused c.cancel_below.ensures.holds.failed_only c.self.invariant)
