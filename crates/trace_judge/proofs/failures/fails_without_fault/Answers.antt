use Rattle.std.proofs.Common.{◌⊎◌}
use Rattle.client_request.specs.declared.error.Error.TheVariants as errors
use Rattle.client_request.specs.declared.error.QueryError.TheVariants as query
use Rattle.trace_judge.specs.Replies.{IsOwnCause}
use Rattle.trace_judge.proofs.Failing.{or_is}
use Rattle.trace_judge.proofs.failures.fails_without_fault.Goals as goal

pub returns : goal.returns
returns c =
    let p = c.args.case.now in
    let k = c.args.request in
    let t = c.args.course.now in
    or_is p t (IsOwnCause p k errors.TimedOut) (λ x h. (IsOwnCause p k (errors.Dgram query.Timeout)) x h ⊎ ((IsOwnCause p k errors.WrongReplyForQuery) x h ⊎ (IsOwnCause p k errors.StreamReadTimeout) x h)) c.in_ok-is_late.is_late c.either-second.result c.either.result c.either.ensures c.in_ok-is_late.ensures
    (or_is p t (IsOwnCause p k (errors.Dgram query.Timeout)) (λ x h. (IsOwnCause p k errors.WrongReplyForQuery) x h ⊎ (IsOwnCause p k errors.StreamReadTimeout) x h) c.in_ok-is_lost.is_lost c.either-third.result c.either-second.result c.either-second.ensures c.in_ok-is_lost.ensures
    (or_is p t (IsOwnCause p k errors.WrongReplyForQuery) (IsOwnCause p k errors.StreamReadTimeout) c.in_ok-is_wrong.is_wrong c.in_ok-is_silent.is_silent c.either-third.result c.either-third.ensures c.in_ok-is_wrong.ensures
    c.in_ok-is_silent.ensures))
