use Rattle.zone_records.proofs.Messages.{transfers}
use Rattle.zone_records.proofs.laws.transfers_law.Goals as goal

pub returns : goal.returns
returns c = transfers
