use Rattle.std.proofs.Common.{◌≡◌, drop}
use Rattle.resolv_lookup.proofs.answer_section.records_behind.Given as goal

-- So many were read.
abbrev pub invariant-loop : goal.invariant-loop
invariant-loop l = l.records ≡ drop l.counter l.initial.records
