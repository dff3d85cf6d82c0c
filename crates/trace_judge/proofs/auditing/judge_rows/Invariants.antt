-- what is said of the rows that are left is said of all
use Rattle.std.proofs.Common.{drop}
use Rattle.trace_judge.proofs.Verdicts.{IsAmid}
use Rattle.trace_judge.proofs.auditing.judge_rows.Given as goal

abbrev pub invariant-loop-i : goal.invariant-loop-i
invariant-loop-i l = IsAmid l.rules l.events (drop l.i l.events) l.rows (drop l.i l.rows) l.i l.judge
