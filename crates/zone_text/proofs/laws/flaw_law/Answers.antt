use Rattle.zone_text.proofs.Zones.{no_zone}
use Rattle.zone_text.proofs.laws.flaw_law.Goals as goal

pub returns : goal.returns
returns c = no_zone
