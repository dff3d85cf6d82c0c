use Rattle.std.proofs.Common.{◌≡◌, ◌++◌, map}
use Rattle.std.specs.List.{filter_map}
use Rattle.dns_lookup_walk.specs.Records.{address_in}
use Rattle.dns_lookup_walk.specs.Targets.{server_at}
use Rattle.dns_lookup_walk.proofs.targets_of.push_addresses.Given as goal

-- The servers in the records that are left are still to come.
abbrev pub invariant-loop-item : goal.invariant-loop-item
invariant-loop-item l =
    l.fn.servers ++ map (server_at l.name) (filter_map (address_in l.name) l.fn.records)
    ≡ l.servers ++ map (server_at l.name) (filter_map (address_in l.name) l.item-iterator)
