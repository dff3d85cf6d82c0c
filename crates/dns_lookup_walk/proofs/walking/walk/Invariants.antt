use Rattle.dns_lookup_walk.specs.Walks.{given_targets, room}
use Rattle.dns_lookup_walk.proofs.Paths.{OnWay}
use Rattle.dns_lookup_walk.proofs.walking.walk.Given as goal

abbrev pub invariant-steps : goal.invariant-steps
invariant-steps g l = OnWay g.W.World.deeds l.ask (given_targets l.fn.servers) l.station l.targets l.fn.world l.world

abbrev pub decreases-steps : goal.decreases-steps
decreases-steps g l = room l.ask.name l.station
