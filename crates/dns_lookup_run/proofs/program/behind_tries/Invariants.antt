-- what is left behind these tries is what is left behind all of them
use Rattle.std.proofs.Common.{◌≡◌, length}
use Rattle.dns_lookup_run.specs.Walks.{behind_tries}
use Rattle.dns_lookup_run.proofs.program.behind_tries.Given as goal

abbrev pub invariant-loop-is_same : goal.invariant-loop-is_same
invariant-loop-is_same l = behind_tries l.is_same l.rest ≡ behind_tries l.more l.later

abbrev pub decreases-loop-is_same : goal.decreases-loop-is_same
decreases-loop-is_same l = length l.rest
