use Rattle.std.proofs.Common.{◌≡◌, map, take}
use Rattle.client_core.specs.declared.edge.Deed.TheVariants.{Learned}
use Rattle.client_loop.specs.Turns.{after_deeds}
use Rattle.client_loop.proofs.learning.learn_all.Given as goal

abbrev pub invariant-loop-server : goal.invariant-loop-server
invariant-loop-server g l = record {
  deeds : g.E.Edge.deeds l.edge ≡ after_deeds (map (λ server. Learned server) (take l.server-index l.servers)) (g.E.Edge.deeds l.fn.edge);
  waits : g.E.Edge.waits l.edge ≡ g.E.Edge.waits l.fn.edge;
  polls : g.E.Edge.polls l.edge ≡ g.E.Edge.polls l.fn.edge;
  faults : g.E.Edge.faults l.edge ≡ g.E.Edge.faults l.fn.edge;
}
