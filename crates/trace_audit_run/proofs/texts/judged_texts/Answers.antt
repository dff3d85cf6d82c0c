use Rattle.trace_audit_run.proofs.Answering.{done, judged_rose, stopped, script_rose, trace_rose, unread_stops}
use Rattle.trace_audit_run.proofs.texts.judged_texts.Goals as goal

pub returns-clause-done : goal.returns-clause-done
returns-clause-done g c = done c.args.asked _ _ c.in_ok-script.script c.in_ok-trace.trace c.judged.result c.in_ok-script.ensures.read c.in_ok-trace.ensures.read c.judged.ensures.answers

pub returns-clause-stopped : goal.returns-clause-stopped
returns-clause-stopped g c = stopped c.args.asked _ _ c.in_ok-script.script c.in_ok-trace.trace c.judged.result c.in_ok-script.ensures.read c.in_ok-trace.ensures.read c.judged.ensures.answers

pub returns-clause-unread : goal.returns-clause-unread
returns-clause-unread g c = judged_rose _ _ _ _ c.judged.result c.judged.ensures.no_fault
