use Rattle.dnsq_run.proofs.QueryEnds.{answer_ends, by_reply, line_ends}
use Rattle.dnsq_run.proofs.run.run_query.Goals as goal

pub returns-in-Ok-clause-ends : goal.returns-in-Ok-clause-ends
returns-in-Ok-clause-ends g c =
    answer_ends _ _ _ _ _ _ _ _ _ c.write_answer.result.0 c.in-Ok.answer c.in-Ok.ensures.asked c.in-Ok.ensures.whole c.write_answer.ensures.statuses c.write_answer.ensures.good c.write_answer.ensures.bad
    c.write_answer.ensures.done c.write_answer.ensures.said c.write_answer.ensures.cut c.write_answer.ensures.memory

pub returns-in-Err-Says-clause-ends : goal.returns-in-Err-Says-clause-ends
returns-in-Err-Says-clause-ends g c =
    line_ends _ _ _ _ _ _ _ _ _ c.in-Err-Says.status c.end_by.result c.in-Err-Says.line.items (rw c.in-Err-Says.field-0-is at c.in-Err-Says.ensures.early) (rw c.in-Err-Says.field-0-is at c.end_by.ensures.status)
    (rw c.in-Err-Says.field-0-is at c.in-Err-Says.ensures.refused) (rw c.in-Err-Says.field-0-is at c.in-Err-Says.ensures.numbers) (rw c.in-Err-Says.field-0-is at c.in-Err-Says.ensures.numbers_line)
    (rw (c.deref.ensures.value, c.in-Err-Says.field-0-is) at c.end_by.ensures.begun) (rw (c.deref.ensures.value, c.in-Err-Says.field-0-is) at c.end_by.ensures.said)

pub returns-in-Ok-clause-line_flushed : goal.returns-in-Ok-clause-line_flushed
returns-in-Ok-clause-line_flushed g c = λ ends. by_reply c.write_answer.result.0 c.write_answer.ensures.statuses c.write_answer.ensures.line_flushed ends
