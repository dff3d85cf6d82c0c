use Rattle.std.proofs.Common.{length}
use Rattle.trace_audit_run.proofs.words.+names_among.Given as goal

abbrev pub decreases-names_among : goal.decreases-names_among
decreases-names_among l = length l.words.now
