use Rattle.std.proofs.Common.{◌≡◌, ◌==◌, ◌++◌, not, length, map}
use Rattle.std.specs.List.{filter}
use Rattle.std.specs.String.{string_bytes}
use Rattle.dns_lookup_files.proofs.text.push_line.Given as goal

abbrev pub invariant-loop-word : goal.invariant-loop-word
invariant-loop-word l = map string_bytes l.words.items ≡ map string_bytes l.fn.words.items ++ filter (λ word. not (length word == 0)) (map (λ word. word.now) l.yielded)
