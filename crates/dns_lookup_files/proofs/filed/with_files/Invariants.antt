use Rattle.std.proofs.Common.{◌≡◌, ◌++◌, map, take}
use Rattle.std.specs.String.{string_bytes}
use Rattle.dns_lookup_files.proofs.filed.with_files.Given as goal

abbrev pub invariant-loop-word : goal.invariant-loop-word
invariant-loop-word g l = map string_bytes l.all.items ≡ map string_bytes l.initial.all.items ++ map string_bytes (take l.word-index l.word-items)
