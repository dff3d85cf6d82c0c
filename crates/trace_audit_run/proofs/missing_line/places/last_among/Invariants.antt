-- the outs that are left give what all give
use Rattle.std.proofs.Common.{◌≡◌, drop}
use Rattle.trace_audit_run.specs.missing_line.Places.{last_among}
use Rattle.trace_audit_run.proofs.missing_line.places.last_among.Given as goal

abbrev pub invariant-loop-out : goal.invariant-loop-out
invariant-loop-out l = last_among l.place (drop l.out-index l.outs) l.last ≡ last_among l.place l.outs l.fn.before
