use Rattle.std.proofs.Common.{◌≡◌, drop}
use Rattle.client_choice.specs.Candidates as plain
use Rattle.client_choice.proofs.candidates.least_of.Given as goal

abbrev pub invariant-loop-c : goal.invariant-loop-c
invariant-loop-c l = plain.least_from l.least (drop l.c-index l.list) ≡ plain.least_of l.fn.list
