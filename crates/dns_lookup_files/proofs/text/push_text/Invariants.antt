use Rattle.std.proofs.Common.{◌≡◌, ◌++◌, map}
use Rattle.std.specs.List.{flat_map}
use Rattle.std.specs.String.{string_bytes}
use Rattle.dns_lookup_files.specs.Files.{line_words}
use Rattle.dns_lookup_files.proofs.text.push_text.Given as goal

abbrev pub invariant-loop-line : goal.invariant-loop-line
invariant-loop-line l = map string_bytes l.words.items ≡ map string_bytes l.fn.words.items ++ flat_map line_words (map (λ line. line.now) l.yielded)
