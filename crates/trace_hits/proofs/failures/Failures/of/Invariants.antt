-- the rows that are left give what all give
use Rattle.std.proofs.Common.{◌≡◌, drop}
use Rattle.trace_hits.specs.Failures.{nothing, after_rows}
use Rattle.trace_hits.proofs.failures.Failures.of.Given as goal

abbrev pub invariant-loop-row : goal.invariant-loop-row
invariant-loop-row l = after_rows l.conf l.settings (drop l.row-index l.rows) l.failures ≡ after_rows l.conf l.settings l.rows nothing
