use Rattle.std.proofs.Common.{length}
use Rattle.dns_lookup_walk.proofs.Tries.{TriedSoFar}
use Rattle.dns_lookup_walk.proofs.trying.first_heard.Given as goal

abbrev pub invariant-servers : goal.invariant-servers
invariant-servers g l = TriedSoFar g.W.World.deeds l.ask l.station l.servers l.rest l.fn.world l.world

abbrev pub decreases-servers : goal.decreases-servers
decreases-servers g l = length l.rest
