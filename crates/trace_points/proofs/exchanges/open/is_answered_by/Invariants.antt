use Rattle.std.proofs.Common.{◌≡◌, drop}
use Rattle.trace_points.specs.exchanges.Open.{answered_by}
use Rattle.trace_points.proofs.exchanges.open.is_answered_by.Given as goal

abbrev pub invariant-loop-octets : goal.invariant-loop-octets
invariant-loop-octets l = answered_by l.request l.id (drop l.octets-index l.messages) ≡ answered_by l.request l.id l.messages
