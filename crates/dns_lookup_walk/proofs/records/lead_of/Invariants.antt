use Rattle.std.proofs.Common.{◌≡◌}
use Rattle.dns_lookup_walk.specs.Records.{lead_of}
use Rattle.dns_lookup_walk.proofs.records.lead_of.Given as goal

abbrev pub invariant-loop-item : goal.invariant-loop-item
invariant-loop-item l = lead_of l.zone l.name l.fn.records ≡ lead_of l.zone l.name l.item-iterator
