use Rattle.dns_base.proofs.AliasTables.{IsSoFar}
use Rattle.dns_base.proofs.alias_table.tabulate.Given as goal

abbrev pub invariant-loop : goal.invariant-loop
invariant-loop l = IsSoFar l.octets l.start l.counter l.at l.kept l.places
