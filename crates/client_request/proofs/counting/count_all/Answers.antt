-- The questions were read.
use Rattle.client_request.specs.Counted.{counts_question}
use Rattle.client_request.proofs.NoRecords.{questions_read}
use Rattle.client_request.proofs.counting.count_all.Goals as goal

pub count_all_records-requires : goal.count_all_records-requires
count_all_records-requires c = questions_read c.args.base.now counts_question c.args.counts.now _ (rw c.question.ensures.all at c.in_ok-count_questions.ensures)
