use Rattle.std.proofs.Common.{◌≡◌, ◌++◌}
use Rattle.std.specs.List.{filter_map}
use Rattle.dns_names.specs.Name.{IsLegal, Labels}
use Rattle.resolv_lookup.specs.HostTable.{addresses_at, key_of}
use Rattle.resolv_lookup.specs.Services.{address_in}
use Rattle.resolv_lookup.proofs.host_table.host_table.Given as goal

-- The addresses in the entries that are left are still to come.
abbrev pub invariant-loop-entry : goal.invariant-loop-entry
invariant-loop-entry l =
    (host : Labels) → IsLegal host → filter_map (address_in host) l.fn.section ≡ addresses_at (key_of host) l.table ++ filter_map (address_in host) l.entry-iterator
