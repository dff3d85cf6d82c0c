use Rattle.trace_audit_run.proofs.Answering.{script_is_bad, script_is_long, script_is_taken, script_no_fault}
use Rattle.trace_audit_run.proofs.texts.judged.Goals as goal

pub returns-in-None-clause-answers : goal.returns-in-None-clause-answers
returns-in-None-clause-answers c = script_is_long c.args.asked _ _ c.in-None.is

pub returns-in-Err-clause-answers : goal.returns-in-Err-clause-answers
returns-in-Err-clause-answers c = script_is_bad c.args.asked _ _ c.in-Some.text _ c.in-Err.stop c.in-Some.is c.deref.ensures.value c.in-Err.ensures

pub returns-in-Err-clause-no_fault : goal.returns-in-Err-clause-no_fault
returns-in-Err-clause-no_fault c = script_no_fault _ c.in-Err.stop c.in-Err.ensures

pub returns-in-Ok-clause-answers : goal.returns-in-Ok-clause-answers
returns-in-Ok-clause-answers c = script_is_taken c.args.asked _ _ c.in-Some.text _ c.in-Ok.script c.judged_in.result c.in-Some.is c.deref.ensures.value c.in-Ok.ensures c.judged_in.ensures.answers
