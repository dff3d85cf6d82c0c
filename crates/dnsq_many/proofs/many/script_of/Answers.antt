use Rattle.dnsq_many.proofs.Outcomes.{bad_line}
use Rattle.dnsq_many.proofs.many.script_of.Goals as goal

pub returns-in-Err-Line-clause-refused : goal.returns-in-Err-Line-clause-refused
returns-in-Err-Line-clause-refused c =
    λ fits is_one. bad_line c.args.text.now c.refused_line.result c.in-Err-Line.line fits (rw c.in-Err-Line.field-0-is at c.in-Err-Line.ensures) (c.refused_line.ensures.line is_one)
