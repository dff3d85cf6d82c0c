use Rattle.trace_audit_run.proofs.Answering.{no_is_said, one_rose, refusal_is_said, right_is_said, three_is_silent, usage_is_said}
use Rattle.trace_audit_run.specs.Lines.{usage_line}
use Rattle.trace_audit_run.proofs.run.run_audit.Goals as goal

pub returns-then-not-are_two-clause-usage_line : goal.returns-then-not-are_two-clause-usage_line
returns-then-not-are_two-clause-usage_line g c = usage_is_said usage_line _ c.end_by.result.0 _ _ _ _ c.as_bytes.ensures.value c.end_by.ensures.said

pub returns-in-Err-clause-refused : goal.returns-in-Err-clause-refused
returns-in-Err-clause-refused g c = refusal_is_said _ _ _ _ c.end_at.result.0 _ _ c.in-Err.stop c.in-Err.ensures.stopped c.end_at.ensures.status c.end_at.ensures.told

pub returns-in-Err-clause-source_fault : goal.returns-in-Err-clause-source_fault
returns-in-Err-clause-source_fault g c = one_rose _ _ _ _ c.end_at.result.0 c.in-Err.stop c.in-Err.ensures.unread c.end_at.ensures.status

pub returns-in-Err-clause-silent : goal.returns-in-Err-clause-silent
returns-in-Err-clause-silent g c = three_is_silent _ _ _ _ c.end_at.result.0 c.in-Err.stop c.end_at.ensures.status c.end_at.ensures.told

pub returns-in-Ok-clause-right : goal.returns-in-Ok-clause-right
returns-in-Ok-clause-right g c = right_is_said _ _ c.in-Ok.answer _ _ c.tell.result.0 c.in-Ok.ensures.done c.asked_by.ensures c.tell.ensures.good

pub returns-in-Ok-clause-wrong : goal.returns-in-Ok-clause-wrong
returns-in-Ok-clause-wrong g c = no_is_said _ _ c.in-Ok.answer _ _ c.tell.result.0 _ _ _ _ c.in-Ok.ensures.done c.asked_by.ensures c.tell.ensures.no
