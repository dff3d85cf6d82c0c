use Rattle.trace_audit_run.proofs.Missing.{missed_told}
use Rattle.trace_audit_run.proofs.missed.audit_hits.Goals as goal

pub returns : goal.returns
returns c =
    missed_told c.args.script.now c.args.trace.now.rows c.as_slice-rows.result.now c.in_ok-hit.hit c.in_ok-stale.stale c.in_ok-conf.conf c.in_ok-conf.ensures c.as_slice-rows.ensures c.in_ok-hit.ensures c.in_ok-stale.ensures
