use Rattle.std.proofs.Common.{refl}
use Rattle.trace_judge.proofs.{Saying.told_bad_end, Telling.if_ok}
use Rattle.trace_judge.proofs.outs.is_bad_end.Goals as goal

pub returns : goal.returns
returns c =
    if_ok c.ends_badly.result (λ b d. told_bad_end c.args.case.now c.args.course.now _ (record { conf = refl; servers = c.deref.ensures.value; row = refl; past = refl; past_timers = refl; here = refl; timers = refl; made = refl; comings = refl }) c.args.place b d) c.ends_badly.ensures
