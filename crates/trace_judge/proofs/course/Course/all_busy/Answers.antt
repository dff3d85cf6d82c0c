use Rattle.std.proofs.Common.{refl}
use Rattle.trace_judge.proofs.{Ending.all_busy, Telling.if_ok}
use Rattle.trace_judge.proofs.course.Course.all_busy.Goals as goal

pub returns : goal.returns
returns c =
    if_ok c.are_waiting_busy.result (λ b d. all_busy c.args.rules.now c.args.self.now _ b (record { conf = refl; servers = c.deref.ensures.value; ledger = refl; sends = refl; writing = refl; loads = refl; waits = refl; backs = refl }) d) c.are_waiting_busy.ensures
