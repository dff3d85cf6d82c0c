use Rattle.std.proofs.Common.{◌≡◌, drop}
use Rattle.dns_lookup_run.specs.Passing.{place_at}
use Rattle.dns_lookup_run.proofs.passing_edge.place_at.Given as goal

abbrev pub invariant-loop-one : goal.invariant-loop-one
invariant-loop-one l = place_at l.place l.places ≡ place_at l.place (drop l.one-index l.places)
