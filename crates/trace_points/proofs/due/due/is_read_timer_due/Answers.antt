use Rattle.trace_points.proofs.lemmas.due.ReadTimers.{tells_read_timer}
use Rattle.trace_points.proofs.due.due.is_read_timer_due.Goals as goal

pub returns-clause-told : goal.returns-clause-told
returns-clause-told c = let a = c.args in tells_read_timer a.conf.now a.place a.moment a.ledger.now a.timers.now c.is_read_due.result c.is_read_due.ensures
