use Rattle.zone_records.proofs.Zones.{nothing_sorted}
use Rattle.zone_records.proofs.zone.Zone.empty.Goals as goal

pub invariant_of-result : goal.invariant_of-result
invariant_of-result c = nothing_sorted c.new.result.items c.new.ensures.items
