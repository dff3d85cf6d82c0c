use Rattle.std.proofs.Common.{◌≡◌}
use Rattle.resolv_lookup.specs.Names.{names_said}
use Rattle.resolv_lookup.proofs.addr.next_name.Given as goal

-- What was passed over is of other types.
abbrev pub invariant-records : goal.invariant-records
invariant-records l = names_said l.initial.records ≡ names_said l.records
