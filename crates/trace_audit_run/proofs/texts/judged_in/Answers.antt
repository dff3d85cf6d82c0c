use Rattle.trace_audit_run.proofs.Answering.{judged_no_fault, trace_is_long, trace_is_read}
use Rattle.trace_audit_run.proofs.texts.judged_in.Goals as goal

pub returns-in-Some-clause-answers : goal.returns-in-Some-clause-answers
returns-in-Some-clause-answers c = trace_is_read c.args.asked _ c.in-Some.trace _ _ c.judged_by.result c.in-Some.is c.deref.ensures.value c.judged_by.ensures

pub returns-in-Some-clause-no_fault : goal.returns-in-Some-clause-no_fault
returns-in-Some-clause-no_fault c = judged_no_fault c.args.asked _ _ c.judged_by.result c.judged_by.ensures

pub returns-in-None-clause-answers : goal.returns-in-None-clause-answers
returns-in-None-clause-answers c = trace_is_long c.args.asked _ _ c.in-None.is
