-- What is written by what the lanes come to.
use Rattle.dnsq_many.proofs.Outcomes.{delivered_ends, silent_ends, line_ends}
use Rattle.dnsq_many.proofs.program.run_many.Goals as goal

pub returns-in-Ok-clause-ends : goal.returns-in-Ok-clause-ends
returns-in-Ok-clause-ends g c =
    delivered_ends _ _ _ _ _ _ c.in-Ok.text.items c.deliver.result.0 c.in-Ok.ensures.done (rw c.deref.ensures.value at c.deliver.ensures.done) (rw c.deref.ensures.value at c.deliver.ensures.begun) c.deliver.ensures.others

pub returns-in-Err-Silent-clause-ends : goal.returns-in-Err-Silent-clause-ends
returns-in-Err-Silent-clause-ends g c = silent_ends _ _ _ _ c.in-Err-Silent.status.0 (rw c.in-Err-Silent.field-0-is at c.in-Err-Silent.ensures.early)

pub returns-in-Err-Says-clause-ends : goal.returns-in-Err-Says-clause-ends
returns-in-Err-Says-clause-ends g c =
    line_ends c.script_laws.ensures _ _ _ _ _ _ c.in-Err-Says.line.items c.in-Err-Says.status c.end_by.result
    (rw c.in-Err-Says.field-0-is at c.in-Err-Says.ensures.early) c.end_by.ensures.status
    (rw c.in-Err-Says.field-0-is at c.in-Err-Says.ensures.refused) (rw c.in-Err-Says.field-0-is at c.in-Err-Says.ensures.numbers) (rw c.in-Err-Says.field-0-is at c.in-Err-Says.ensures.numbers_line)
    (rw c.deref-in-Err-Says.ensures.value at c.end_by.ensures.begun) (rw c.deref-in-Err-Says.ensures.value at c.end_by.ensures.said)
