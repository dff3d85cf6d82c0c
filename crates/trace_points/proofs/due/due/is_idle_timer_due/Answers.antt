use Rattle.trace_points.proofs.lemmas.questions.Deciding.{if_ok}
use Rattle.trace_points.proofs.lemmas.due.IdleTimers.{tells_idle_timer}
use Rattle.trace_points.proofs.due.due.is_idle_timer_due.Goals as goal

pub returns : goal.returns
returns c =
    let a = c.args in
    if_ok c.is_idle_due.result (λ b e. tells_idle_timer a.conf.now a.place a.ledger.now a.timers.now b e) c.is_idle_due.ensures
