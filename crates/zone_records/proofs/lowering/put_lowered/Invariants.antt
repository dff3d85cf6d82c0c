-- The octets so far, in lower case.
use Rattle.std.proofs.Common.{◌≡◌, ◌++◌, map, take}
use Rattle.std.specs.Char.{to_ascii_lowercase}
use Rattle.zone_records.proofs.lowering.put_lowered.Given as goal

abbrev pub invariant-loop-octet : goal.invariant-loop-octet
invariant-loop-octet l = l.octets.items ≡ l.fn.octets.items ++ map to_ascii_lowercase (take l.octet-index l.label)
