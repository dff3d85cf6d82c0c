use Rattle.zone_refresh_run.specs.Turns.{AreKept}
use Rattle.zone_refresh_run.proofs.turns.keep_zones.Given as goal

abbrev pub invariant-loop : goal.invariant-loop
invariant-loop g l = AreKept g.W.World.does l.counter l.fn.zones l.zones l.fn.world l.world
