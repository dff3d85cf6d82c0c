use Rattle.trace_audit_run.proofs.Answering.{late_is_said, missing_is_said, wrong_is_said}
use Rattle.trace_audit_run.proofs.run.tell.Goals as goal

pub returns-in-Wrong-clause-no : goal.returns-in-Wrong-clause-no
returns-in-Wrong-clause-no g c five = wrong_is_said c.args.answer c.in-Wrong.clause c.in-Wrong.row _ _ _ _ _ c.in-Wrong.is c.deref.ensures.value (c.tell_wrong.ensures.said five)

pub returns-in-Some-clause-no : goal.returns-in-Some-clause-no
returns-in-Some-clause-no g c five = late_is_said c.args.answer c.in-Some.row _ _ _ _ _ c.in-Right.is c.in-Some.is c.deref-in-Some.ensures.value (c.tell_untimely.ensures.said five)

pub returns-clause-no : goal.returns-clause-no
returns-clause-no g c five = missing_is_said c.args.answer _ _ _ _ c.in-Right.is c.in-None.is (c.tell_missed.ensures.no five)
