use Rattle.std.proofs.Common.{◌≡◌, take}
use Rattle.std.specs.List.{flat_map}
use Rattle.dns_base.specs.Message.{additional_items}
use Rattle.dns_lookup_walk.specs.Records.{found_in}
use Rattle.dns_lookup_walk.specs.Targets.{glue_of}
use Rattle.dns_lookup_walk.proofs.targets_of.glue.Given as goal

abbrev pub invariant-loop-name : goal.invariant-loop-name
invariant-loop-name l = l.servers ≡ flat_map (glue_of l.zone (found_in (additional_items l.message))) (take l.name-index l.names)
