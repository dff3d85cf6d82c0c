use Rattle.zone_records.proofs.Comparing.{equal_records}
use Rattle.zone_records.proofs.laws.equal_records_law.Goals as goal

pub returns : goal.returns
returns c = equal_records
