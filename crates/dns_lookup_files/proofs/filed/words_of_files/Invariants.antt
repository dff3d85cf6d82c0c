-- what the files that are left have stands behind what is there
use Rattle.std.proofs.Common.{ℕ, ◌++◌, List, length, map}
use Rattle.std.specs.String.{string_bytes}
use Rattle.dns_lookup_files.specs.Files.{HaveWords}
use Rattle.dns_lookup_files.proofs.filed.words_of_files.Given as goal

abbrev pub invariant-loop-name : goal.invariant-loop-name
invariant-loop-name g l =
    (more : List (List ℕ)) (new : g.row.O.Denot) → HaveWords g.O.OpenFile.files (map string_bytes l.rest) more l.opener new
    → HaveWords g.O.OpenFile.files (map string_bytes l.files) (map string_bytes l.words.items ++ more) l.fn.opener new

abbrev pub decreases-loop-name : goal.decreases-loop-name
decreases-loop-name g l = length l.rest
