use Rattle.std.proofs.Common.{◌⊎◌}
use Rattle.client_request.specs.declared.fault.Fault.TheVariants as fault
use Rattle.trace_judge.specs.Replies.{FailsWith}
use Rattle.trace_judge.proofs.Failing.{or_is}
use Rattle.trace_judge.proofs.failures.fails_by_client.Goals as goal

pub returns : goal.returns
returns c =
    let p = c.args.case.now in
    let k = c.args.request in
    let t = c.args.course.now in
    or_is p t (FailsWith p k fault.Expired) (λ x h. (FailsWith p k fault.ShortSend) x h ⊎ ((FailsWith p k fault.NothingTaken) x h ⊎ (FailsWith p k fault.EndOfData) x h)) c.in_ok-expired.expired c.either-second.result c.either.result c.either.ensures c.in_ok-expired.ensures
    (or_is p t (FailsWith p k fault.ShortSend) (λ x h. (FailsWith p k fault.NothingTaken) x h ⊎ (FailsWith p k fault.EndOfData) x h) c.in_ok-short_send.short_send c.either-third.result c.either-second.result c.either-second.ensures c.in_ok-short_send.ensures
    (or_is p t (FailsWith p k fault.NothingTaken) (FailsWith p k fault.EndOfData) c.in_ok-nothing_taken.nothing_taken c.in_ok-end_of_data.end_of_data c.either-third.result c.either-third.ensures c.in_ok-nothing_taken.ensures
    c.in_ok-end_of_data.ensures))
