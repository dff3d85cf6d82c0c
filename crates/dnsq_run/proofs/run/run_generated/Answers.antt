-- What is written by what the summary comes to.
use Rattle.dnsq_run.proofs.Generations.{only_seven, silent_ends, stopped_ends, summary_ends}
use Rattle.dnsq_run.proofs.run.run_generated.Goals as goal

pub returns-in-Ok-clause-summarized : goal.returns-in-Ok-clause-summarized
returns-in-Ok-clause-summarized g c =
    summary_ends _ _ c.in-Ok.summary.items _ _ c.in-Ok.ensures.summary c.deliver.ensures.others (rw c.deref.ensures.value at c.deliver.ensures.done) (rw c.deref.ensures.value at c.deliver.ensures.begun)

pub returns-in-Err-Silent-clause-summarized : goal.returns-in-Err-Silent-clause-summarized
returns-in-Err-Silent-clause-summarized g c =
    silent_ends _ c.in-Err-Silent.ended.0 _ (rw c.in-Err-Silent.field-0-is at c.in-Err-Silent.ensures.statuses) (rw c.in-Err-Silent.field-0-is at c.in-Err-Silent.ensures.numbers)

pub returns-in-Err-Says-clause-summarized : goal.returns-in-Err-Says-clause-summarized
returns-in-Err-Says-clause-summarized g c =
    let seven = only_seven c.in-Err-Says.status.0 (rw c.in-Err-Says.field-0-is at c.in-Err-Says.ensures.early) (rw c.in-Err-Says.field-0-is at c.in-Err-Says.ensures.statuses) in
    stopped_ends _ c.in-Err-Says.status c.end_by.result c.in-Err-Says.line.items _ _ seven c.end_by.ensures.status
    ((rw c.in-Err-Says.field-0-is at c.in-Err-Says.ensures.numbers) seven) ((rw c.in-Err-Says.field-0-is at c.in-Err-Says.ensures.numbers_line) seven)
    (rw c.deref-in-Err-Says.ensures.value at c.end_by.ensures.begun)
