-- The line is refused, or no lane came.
use Rattle.dns_script.specs.ScriptReading.{TakesLine}
use Rattle.dns_script.proofs.Outcomes.{refusal}
use Rattle.dns_script.proofs.ScriptLoop.{line_refused, no_lane}
use Rattle.dns_script.proofs.script_lines.read_script.Goals as goal

pub returns-in-Err-Refused : goal.returns-in-Err-Refused
returns-in-Err-Refused c =
    line_refused c.args.lanes c.args.text.now c.loop-line.left.rest.now c.take.new.self.rest.now c.in-Some.line.now c.loop-line.count c.loop-line.reader c.loop-line.invariant c.in-Some.ensures.lines
    (refusal c.in-Err-Refused.field-0 c.line.new.self (TakesLine c.in-Some.line.now c.loop-line.reader) c.in-Err-Refused.field-0-is c.in-Err-Refused.ensures)

pub returns-in-None : goal.returns-in-None
returns-in-None c =
    no_lane c.args.lanes c.args.text.now c.loop-line.left.rest.now c.loop-line.count c.loop-line.reader c.loop-line.invariant c.in_default.ensures.lines c.in-None.is
