use Rattle.trace_audit_run.specs.Program.{IsHit, IsStale}
use Rattle.trace_audit_run.proofs.run.tell_missed.Goals as goal

pub returns-in-Some-clause-no : goal.returns-in-Some-clause-no
returns-in-Some-clause-no g c five = IsHit c.in-Some.row c.in-Some.is (c.tell_hit.ensures.said five)

pub returns-in-Some-stale-clause-no : goal.returns-in-Some-stale-clause-no
returns-in-Some-stale-clause-no g c five = IsStale c.in-Some-stale.row c.in-None.is c.in-Some-stale.is (c.tell_stale.ensures.said five)
