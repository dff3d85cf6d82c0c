use Rattle.zone_records.proofs.Zones.{zones}
use Rattle.zone_records.proofs.laws.zones_law.Goals as goal

pub returns : goal.returns
returns c = zones
