use Rattle.std.proofs.Common.{◌≡◌, not, filter, take}
use Rattle.dns_base.specs.Message.{additional_items}
use Rattle.dns_lookup_walk.specs.Records.{found_in}
use Rattle.dns_lookup_walk.specs.Targets.{has_glue}
use Rattle.dns_lookup_walk.proofs.targets_of.without_glue.Given as goal

abbrev pub invariant-loop-name : goal.invariant-loop-name
invariant-loop-name l = l.bare ≡ filter (λ name. not (has_glue l.zone (found_in (additional_items l.message)) name)) (take l.name-index l.names)
