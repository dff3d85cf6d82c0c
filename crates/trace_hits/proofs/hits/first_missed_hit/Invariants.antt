-- what is said of the rows that are left is said of all
use Rattle.std.proofs.Common.{drop}
use Rattle.trace_hits.specs.Row.{Hit, Whatever}
use Rattle.trace_hits.proofs.Stepping.{Amid}
use Rattle.trace_hits.proofs.hits.first_missed_hit.Given as goal

abbrev pub invariant-loop-i : goal.invariant-loop-i
invariant-loop-i l = Amid (Hit l.cache) Whatever l.cache l.rows (drop l.i l.rows) l.i l.course
