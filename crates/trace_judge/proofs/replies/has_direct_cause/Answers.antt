use Rattle.std.proofs.Common.{Some, sym, subst}
use Rattle.trace_points.specs.exchanges.Coming.{TellsComing}
use Rattle.trace_judge.specs.Known.{conf_in}
use Rattle.trace_judge.proofs.{Replying.direct_cause, Telling.if_ok}
use Rattle.trace_judge.proofs.replies.has_direct_cause.Goals as goal

pub returns : goal.returns
returns c =
    let p = c.args.case.now in
    let t = c.args.course.now in
    let cs = subst (TellsComing (conf_in p) (Some c.args.request) p.past.now.pass.ledger.books p.past.now.pass.sends t.here.pass.ledger) (sym c.as_slice.ensures) c.in_ok-comings.ensures in
    if_ok c.direct_cause.result (λ b d. direct_cause p t c.args.request c.args.error b c.trace.result.now c.as_slice.result.now c.trace.ensures cs d) c.direct_cause.ensures
