use Rattle.std.proofs.Common.{◌⊎◌}
use Rattle.client_request.specs.declared.error.Error.TheVariants as errors
use Rattle.client_request.specs.declared.error.QueryError.TheVariants as query
use Rattle.trace_judge.specs.Replies.{IsOwnCause}
use Rattle.trace_judge.proofs.Failing.{or_is}
use Rattle.trace_judge.proofs.failures.fails_with.Goals as goal

pub returns : goal.returns
returns c =
    let p = c.args.case.now in
    let k = c.args.request in
    let t = c.args.course.now in
    or_is p t (IsOwnCause p k (errors.Dgram (query.Connect c.args.fault))) (λ x h. (IsOwnCause p k (errors.Dgram (query.Send c.args.fault))) x h ⊎ (IsOwnCause p k (errors.Dgram (query.Receive c.args.fault))) x h) c.in_ok-is_connect.is_connect c.either-later.result c.either.result c.either.ensures c.in_ok-is_connect.ensures
    (or_is p t (IsOwnCause p k (errors.Dgram (query.Send c.args.fault))) (IsOwnCause p k (errors.Dgram (query.Receive c.args.fault))) c.in_ok-is_send.is_send c.in_ok-is_receive.is_receive c.either-later.result c.either-later.ensures c.in_ok-is_send.ensures
    c.in_ok-is_receive.ensures)
