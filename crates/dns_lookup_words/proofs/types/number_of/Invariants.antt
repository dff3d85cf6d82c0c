-- no entry so far has the name
use Rattle.std.proofs.Common.{◌≡◌, drop}
use Rattle.dns_values.specs.NumberNames.{number_of}
use Rattle.dns_values.specs.NameTable.{told}
use Rattle.dns_lookup_words.proofs.types.number_of.Given as goal

abbrev pub invariant-loop-entry : goal.invariant-loop-entry
invariant-loop-entry l = number_of (told l.names) l.text ≡ number_of (told (drop l.entry-index l.names)) l.text
