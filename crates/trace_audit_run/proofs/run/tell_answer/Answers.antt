use Rattle.std.proofs.Common.{arith}
use Rattle.trace_audit_run.proofs.Ended.{told_at}
use Rattle.trace_audit_run.proofs.run.tell_answer.Goals as goal

pub returns-clause-no : goal.returns-clause-no
returns-clause-no g c = told_at c.tell_written_answer.result c.tell-status.result 5 _ c.tell_written_answer.ensures.status (λ h. omega arith) c.tell-status.ensures.no
