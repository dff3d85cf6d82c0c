use Rattle.std.proofs.Common.{◌≡◌, ◌++◌, map, take, drop}
use Rattle.dns_lookup_run.specs.Passing.{asked_under}
use Rattle.dns_lookup_run.proofs.passing_edge.set_id.Given as goal

abbrev pub invariant-loop-one : goal.invariant-loop-one
invariant-loop-one l =
    l.one-items ≡ map (asked_under l.place l.id) (take l.one-index l.initial.one-items) ++ drop l.one-index l.initial.one-items
