use Rattle.std.proofs.Common.{◌≡◌, ◌++◌, drop, map}
use Rattle.client_choice.specs.Candidates as plain
use Rattle.client_choice.proofs.candidates.entries_of.Given as goal

abbrev pub invariant-loop-c : goal.invariant-loop-c
invariant-loop-c l = l.entries.items ++ map plain.entry_of (drop l.c-index l.list) ≡ map plain.entry_of l.fn.list
