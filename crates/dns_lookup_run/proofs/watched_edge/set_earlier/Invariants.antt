use Rattle.std.proofs.Common.{◌≡◌, ◌++◌, map, take, drop}
use Rattle.dns_lookup_run.specs.Watched.{as_earlier}
use Rattle.dns_lookup_run.proofs.watched_edge.set_earlier.Given as goal

abbrev pub invariant-loop-one : goal.invariant-loop-one
invariant-loop-one l =
    l.one-items ≡ map as_earlier (take l.one-index l.initial.one-items) ++ drop l.one-index l.initial.one-items
