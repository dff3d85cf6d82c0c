-- what is said of the rows that are left is said of all
use Rattle.std.proofs.Common.{drop}
use Rattle.trace_hits.specs.Serving.{Serve, KnowFailures}
use Rattle.trace_hits.proofs.Stepping.{Amid}
use Rattle.trace_hits.proofs.stale.first_missed_stale.Given as goal

abbrev pub invariant-loop-i : goal.invariant-loop-i
invariant-loop-i l = Amid (Serve l.cache) (KnowFailures l.cache l.failures) l.cache l.rows (drop l.i l.rows) l.i l.course
