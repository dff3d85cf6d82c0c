-- the lines before the rest were taken, and counted
use Rattle.std.proofs.Common.{length}
use Rattle.dns_script.proofs.ScriptLoop.{HasRead}
use Rattle.dns_script.proofs.script_lines.read_script.Given as goal

abbrev pub invariant-loop-line : goal.invariant-loop-line
invariant-loop-line l = HasRead l.lanes l.fn.text l.left.rest.now l.count l.reader

abbrev pub decreases-loop-line : goal.decreases-loop-line
decreases-loop-line l = length l.left.rest.now
