use Rattle.std.proofs.Common.{◌≡◌, ◌++◌, map, take}
use Rattle.std.specs.Char.{to_ascii_lowercase}
use Rattle.dns_base.proofs.suffixes.put_lowered.Given as goal

-- The label so far, in lower case.
abbrev pub invariant-loop-octet : goal.invariant-loop-octet
invariant-loop-octet l = l.key.items ≡ l.initial.key.items ++ map to_ascii_lowercase (take l.octet-index l.label)
