use Rattle.std.proofs.Common.{◌≡◌, ◌++◌, map, take, drop}
use Rattle.dns_lookup_run.specs.Watched.{sent_under}
use Rattle.dns_lookup_run.proofs.watched_edge.set_sent.Given as goal

abbrev pub invariant-loop-one : goal.invariant-loop-one
invariant-loop-one l =
    l.one-items ≡ map (sent_under l.place l.id) (take l.one-index l.initial.one-items) ++ drop l.one-index l.initial.one-items
