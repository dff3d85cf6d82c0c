use Rattle.std.proofs.Common.{◌≡◌, ◌++◌, map, take, drop}
use Rattle.dns_lookup_run.specs.Watched.{at_place}
use Rattle.dns_lookup_run.proofs.watched_edge.set_news.Given as goal

abbrev pub invariant-loop-one : goal.invariant-loop-one
invariant-loop-one l =
    l.one-items ≡ map (at_place l.brought) (take l.one-index l.initial.one-items) ++ drop l.one-index l.initial.one-items
