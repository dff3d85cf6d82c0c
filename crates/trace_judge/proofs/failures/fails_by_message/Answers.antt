use Rattle.std.proofs.Common.{Some, sym, subst}
use Rattle.trace_points.specs.exchanges.Coming.{TellsComing}
use Rattle.trace_judge.specs.Known.{conf_in}
use Rattle.trace_judge.proofs.Failing.{by_message}
use Rattle.trace_judge.proofs.failures.fails_by_message.Goals as goal

pub returns : goal.returns
returns c =
    let p = c.args.case.now in
    let t = c.args.course.now in
    let cs = subst (TellsComing (conf_in p) (Some c.args.request) p.past.now.pass.ledger.books p.past.now.pass.sends t.here.pass.ledger) (sym c.as_slice.ensures) c.in_ok-comings.ensures in
    by_message p t c.args.request c.in_ok-done.done c.message_fails.result c.trace.result.now c.as_slice.result.now c.trace.ensures cs c.in_ok-done.ensures c.message_fails.ensures.told
