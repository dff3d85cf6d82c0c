use Rattle.trace_audit_run.proofs.texts.script_in.Goals as goal

pub returns-in-Err-Line : goal.returns-in-Err-Line
returns-in-Err-Line c = rw c.in-Err-Line.field-0-is at c.in-Err-Line.ensures
