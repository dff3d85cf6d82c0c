use Rattle.std.proofs.Common.{sym, subst}
use Rattle.trace_judge.specs.Replies.{TellsCause}
use Rattle.trace_judge.proofs.Replying.{cause}
use Rattle.trace_judge.proofs.replies.has_cause.Goals as goal

pub returns : goal.returns
returns c =
    subst (λ b. TellsCause c.args.case.now c.args.course.now c.args.request c.args.error b) (sym c.either.ensures)
    (cause c.args.case.now c.args.course.now c.args.request c.args.error c.in_ok-own.own c.in_ok-kept.kept c.in_ok-own.ensures c.in_ok-kept.ensures)
