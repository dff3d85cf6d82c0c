use Rattle.std.proofs.Common.{refl}
use Rattle.trace_judge.proofs.{Saying.told_out, Telling.if_ok}
use Rattle.trace_judge.proofs.outs.is_right.Goals as goal

pub returns : goal.returns
returns c =
    if_ok c.is_out_right.result (λ b d. told_out c.args.case.now c.args.course.now _ (record { conf = refl; servers = c.deref.ensures.value; row = refl; past = refl; past_timers = refl; here = refl; timers = refl; made = refl; comings = refl }) c.args.out.now b d) c.is_out_right.ensures
