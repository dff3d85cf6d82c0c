use Rattle.std.proofs.Common.{◌⊎◌}
use Rattle.client_request.specs.declared.fault.Fault.TheVariants as fault
use Rattle.trace_judge.specs.Replies.{FailsWith}
use Rattle.trace_judge.proofs.Failing.{or_is}
use Rattle.trace_judge.proofs.failures.fails_by_socket.Goals as goal

pub returns : goal.returns
returns c =
    let p = c.args.case.now in
    let k = c.args.request in
    let t = c.args.course.now in
    or_is p t (FailsWith p k fault.Refused) (λ x h. (FailsWith p k fault.Reset) x h ⊎ ((FailsWith p k fault.Unreachable) x h ⊎ ((FailsWith p k fault.InUse) x h ⊎ ((FailsWith p k fault.Broken) x h ⊎ (FailsWith p k fault.Other) x h)))) c.in_ok-refused.refused c.either-second.result c.either.result c.either.ensures c.in_ok-refused.ensures
    (or_is p t (FailsWith p k fault.Reset) (λ x h. (FailsWith p k fault.Unreachable) x h ⊎ ((FailsWith p k fault.InUse) x h ⊎ ((FailsWith p k fault.Broken) x h ⊎ (FailsWith p k fault.Other) x h))) c.in_ok-reset.reset c.either-third.result c.either-second.result c.either-second.ensures c.in_ok-reset.ensures
    (or_is p t (FailsWith p k fault.Unreachable) (λ x h. (FailsWith p k fault.InUse) x h ⊎ ((FailsWith p k fault.Broken) x h ⊎ (FailsWith p k fault.Other) x h)) c.in_ok-unreachable.unreachable c.either-fourth.result c.either-third.result c.either-third.ensures c.in_ok-unreachable.ensures
    (or_is p t (FailsWith p k fault.InUse) (λ x h. (FailsWith p k fault.Broken) x h ⊎ (FailsWith p k fault.Other) x h) c.in_ok-in_use.in_use c.either-fifth.result c.either-fourth.result c.either-fourth.ensures c.in_ok-in_use.ensures
    (or_is p t (FailsWith p k fault.Broken) (FailsWith p k fault.Other) c.in_ok-broken.broken c.in_ok-other.other c.either-fifth.result c.either-fifth.ensures c.in_ok-broken.ensures
    c.in_ok-other.ensures))))
