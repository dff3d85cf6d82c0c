use Rattle.std.proofs.Common.{◌≡◌, ◌++◌}
use Rattle.dns_lookup_walk.specs.Targets.{names_in}
use Rattle.dns_lookup_walk.proofs.targets_of.names_in.Given as goal

-- The names in the records that are left are still to come.
abbrev pub invariant-loop-item : goal.invariant-loop-item
invariant-loop-item l = names_in l.owner l.fn.records ≡ l.names ++ names_in l.owner l.item-iterator
