use Rattle.std.proofs.Common.{◌≡◌}
use Rattle.client_loop.specs.All.{there}
use Rattle.client_loop.specs.Asking.{scene}
use Rattle.client_loop.proofs.AllTurning.{Waiting}
use Rattle.client_loop.proofs.all.ask_all.Given as goal

abbrev pub invariant-loop-left : goal.invariant-loop-left
invariant-loop-left g l = record {
  waits : Waiting l.fn.number l.left 1000000 l.fn.requests.items
      (scene l.fn.client (g.W.Words.stream l.fn.words) (g.E.Edge.deeds l.fn.edge) (g.E.Edge.waits l.fn.edge) (g.E.Edge.polls l.fn.edge) (g.C.Clock.given l.fn.clock))
      (scene l.client (g.W.Words.stream l.words) (g.E.Edge.deeds l.edge) (g.E.Edge.waits l.edge) (g.E.Edge.polls l.edge) (g.C.Clock.given l.clock)) l.replies.items;
  count_is : l.count ≡ there l.replies.items;
}

abbrev pub decreases-loop-left : goal.decreases-loop-left
decreases-loop-left g l = l.left
