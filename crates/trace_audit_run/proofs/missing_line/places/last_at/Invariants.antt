-- the rows that are left give what all give
use Rattle.std.proofs.Common.{◌≡◌, drop, None}
use Rattle.trace_audit_run.specs.missing_line.Places.{last_at}
use Rattle.trace_audit_run.proofs.missing_line.places.last_at.Given as goal

abbrev pub invariant-loop-row : goal.invariant-loop-row
invariant-loop-row l = last_at l.place (drop l.row-index l.rows) l.last ≡ last_at l.place l.rows None
