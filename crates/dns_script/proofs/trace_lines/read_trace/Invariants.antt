-- the lines before the rest were read, and counted
use Rattle.std.proofs.Common.{length}
use Rattle.dns_script.proofs.TraceLoop.{HasReadTrace}
use Rattle.dns_script.proofs.trace_lines.read_trace.Given as goal

abbrev pub invariant-loop-line : goal.invariant-loop-line
invariant-loop-line l = HasReadTrace l.fn.text l.rest l.count l.reader

abbrev pub decreases-loop-line : goal.decreases-loop-line
decreases-loop-line l = length l.rest
