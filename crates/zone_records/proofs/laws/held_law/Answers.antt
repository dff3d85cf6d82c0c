use Rattle.zone_records.proofs.Zoned.{held}
use Rattle.zone_records.proofs.laws.held_law.Goals as goal

pub returns : goal.returns
returns c = held
