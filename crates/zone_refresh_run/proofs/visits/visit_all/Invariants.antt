use Rattle.zone_refresh_run.proofs.Visiting.{VisitedSo}
use Rattle.zone_refresh_run.proofs.visits.visit_all.Given as goal

abbrev pub invariant-loop-number : goal.invariant-loop-number
invariant-loop-number g l = VisitedSo g.W.World.does l.number l.fn.zones l.zones l.fn.world l.world
