use Rattle.std.proofs.Common.{◌≡◌, map, take}
use Rattle.std.specs.Char.{to_ascii_lowercase}
use Rattle.resolv_lookup.proofs.host_table.key_of.Given as goal

-- The octets so far, in lower case.
abbrev pub invariant-loop-octet : goal.invariant-loop-octet
invariant-loop-octet l = l.key.items ≡ map to_ascii_lowercase (take l.octet-index l.octet-items)
