use Rattle.dns_lookup_walk.proofs.Zones.{steps_descend}
use Rattle.dns_lookup_walk.proofs.laws.walk_laws.Goals as goal

pub returns : goal.returns
returns c = record { descends = steps_descend }
