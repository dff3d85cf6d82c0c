-- the outs that are left say what all say
use Rattle.std.proofs.Common.{◌≡◌, drop}
use Rattle.trace_audit_run.specs.missing_line.Words.{is_asked_of_some}
use Rattle.trace_audit_run.proofs.missing_line.outs.is_asked_of_some.Given as goal

abbrev pub invariant-loop-out : goal.invariant-loop-out
invariant-loop-out l = is_asked_of_some l.clause (drop l.out-index l.outs) ≡ is_asked_of_some l.clause l.outs
