-- No section has a record.
use Rattle.client_request.proofs.NoRecords.{copies_none}
use Rattle.client_request.proofs.append.copy_all_records.Goals as goal

pub returns-then-has_no_records-clause-copied : goal.returns-then-has_no_records-clause-copied
returns-then-has_no_records-clause-copied c = copies_none c.args.base.now c.args.target.now (c.has_no_records.ensures.0 c.if-has_no_records.true) c.requires.read
