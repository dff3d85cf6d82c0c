use Rattle.std.proofs.Common.{◌≡◌, drop}
use Rattle.dns_lookup_run.specs.Watched.{opened_at}
use Rattle.dns_lookup_run.proofs.watched_edge.opened_at.Given as goal

abbrev pub invariant-loop-one : goal.invariant-loop-one
invariant-loop-one l = opened_at l.place l.opened ≡ opened_at l.place (drop l.one-index l.opened)
