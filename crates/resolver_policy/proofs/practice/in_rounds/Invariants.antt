use Rattle.std.proofs.Common.{◌≡◌}
use Rattle.resolver_policy.specs.Practice.{in_rounds}
use Rattle.resolver_policy.proofs.practice.in_rounds.Given as goal

abbrev pub invariant-loop : goal.invariant-loop
invariant-loop l = l.all.items ≡ in_rounds l.counter l.servers
