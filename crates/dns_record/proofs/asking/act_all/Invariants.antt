use Rattle.std.proofs.Common.{◌≡◌, take}
use Rattle.client_loop.specs.Turns.{acts_on, after_deeds}
use Rattle.dns_record.proofs.asking.act_all.Given as goal

abbrev pub invariant-loop-out : goal.invariant-loop-out
invariant-loop-out g l = record {
  deeds : g.E.Edge.deeds l.edge ≡ after_deeds (acts_on (take l.out-index l.outs)) (g.E.Edge.deeds l.fn.edge);
  waits : g.E.Edge.waits l.edge ≡ g.E.Edge.waits l.fn.edge;
  polls : g.E.Edge.polls l.edge ≡ g.E.Edge.polls l.fn.edge;
}
