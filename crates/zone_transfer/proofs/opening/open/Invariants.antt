use Rattle.std.proofs.Common.{◌≡◌}
use Rattle.zone_transfer.proofs.Turns.{StillOpens}
use Rattle.zone_transfer.specs.Turning.{scene}
use Rattle.zone_transfer.proofs.opening.open.Given as goal

abbrev pub invariant-loop-left : goal.invariant-loop-left
invariant-loop-left g l = record {
  opens : StillOpens l.fn.most l.left (scene (g.E.Edge.deeds l.fn.edge) (g.E.Edge.polls l.fn.edge) (g.C.Clock.given l.fn.clock)) (scene (g.E.Edge.deeds l.edge) (g.E.Edge.polls l.edge) (g.C.Clock.given l.clock));
  moments : g.C.Clock.given l.clock ≡ g.C.Clock.given l.fn.clock;
}

abbrev pub decreases-loop-left : goal.decreases-loop-left
decreases-loop-left g l = l.left
