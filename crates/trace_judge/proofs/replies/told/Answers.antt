use Rattle.std.proofs.Common.{sym, ap, ◌∙◌}
use Rattle.right_trace.specs.Validity.{is_deferred}
use Rattle.trace_judge.proofs.Replying.{told_alone}
use Rattle.trace_judge.proofs.replies.told.Goals as goal

pub returns : goal.returns
returns c =
    told_alone c.args.case.now c.args.course.now c.args.request c.args.message.now c.is_marked_as_failing.result
    (sym (c.is_deferred-is_deferred.ensures ∙ ap (λ s. is_deferred s c.args.message.now) c.trace.ensures) ∙ c.if-is_deferred.false) c.is_marked_as_failing.ensures
