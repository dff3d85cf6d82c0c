use Rattle.std.proofs.Common.{◌||◌, sym, ap, ◌∙◌, subst}
use Rattle.trace_judge.specs.Replies.{TellsFails}
use Rattle.trace_judge.proofs.Failing.{fails}
use Rattle.trace_judge.proofs.failures.fails.Goals as goal

pub returns : goal.returns
returns c =
    let p = c.args.case.now in
    let t = c.args.course.now in
    let alone = c.in_ok-alone.alone in
    let by_message = c.in_ok-by_message.by_message in
    subst (λ b. TellsFails p t c.args.request b) (sym (c.either.ensures ∙ ap (λ b. b || by_message) (c.either-by_error.ensures ∙ ap (λ b. alone || b) c.either-by_fault.ensures)))
    (fails p t c.args.request alone c.in_ok-by_socket.by_socket c.in_ok-by_client.by_client by_message c.in_ok-alone.ensures c.in_ok-by_socket.ensures c.in_ok-by_client.ensures c.in_ok-by_message.ensures)
