use Rattle.std.proofs.Common.{length}
use Rattle.dns_lookup_walk.proofs.Hosts.{FoundSoFar}
use Rattle.dns_lookup_walk.proofs.step.look_up_all.Given as goal

abbrev pub invariant-names : goal.invariant-names
invariant-names g l = FoundSoFar g.W.World.deeds l.names l.rest l.fn.servers l.servers l.fn.world l.world

abbrev pub decreases-names : goal.decreases-names
decreases-names g l = length l.rest
