-- the rows before the index have been counted
use Rattle.dns_script.proofs.Counts.{HasCounted}
use Rattle.dns_script.proofs.summary.Summary.of.Given as goal

abbrev pub invariant-loop-row : goal.invariant-loop-row
invariant-loop-row l = HasCounted l.rows l.row-index l.summary
