-- the rows that are left give what all give
use Rattle.std.proofs.Common.{◌≡◌, drop}
use Rattle.trace_hits.specs.timely.{Waiting.nothing, Timely.first_late}
use Rattle.trace_hits.proofs.timely.untimely.find.Given as goal

abbrev pub invariant-loop-i : goal.invariant-loop-i
invariant-loop-i l = first_late l.timeout l.i (drop l.i l.rows) l.waiting ≡ first_late l.timeout 0 l.rows nothing
