-- no entry so far is that of the number
use Rattle.std.proofs.Common.{◌≡◌, drop}
use Rattle.dns_values.specs.NumberNames.{name_of}
use Rattle.dns_values.specs.NameTable.{told}
use Rattle.dns_presentation.proofs.certificates.name_of.Given as goal

abbrev pub invariant-loop-entry : goal.invariant-loop-entry
invariant-loop-entry l = name_of (told l.names) l.number ≡ name_of (told (drop l.entry-index l.names)) l.number
