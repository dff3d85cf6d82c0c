use Rattle.std.proofs.Common.{◌≡◌}
use Rattle.resolv_lookup.specs.Addresses.{addresses_said}
use Rattle.resolv_lookup.proofs.address_iter.next_address.Given as goal

-- What was passed over says no address of the kind.
abbrev pub invariant-records : goal.invariant-records
invariant-records l = addresses_said l.kind l.initial.records ≡ addresses_said l.kind l.records
