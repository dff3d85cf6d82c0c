-- No section has a record.
use Rattle.client_request.proofs.NoRecords.{counts_none}
use Rattle.client_request.proofs.counting.count_all_records.Goals as goal

pub returns-then-has_no_records : goal.returns-then-has_no_records
returns-then-has_no_records c = counts_none c.args.base.now c.args.counts.now (c.has_no_records.ensures.0 c.if-has_no_records.true) c.requires
