use Rattle.std.proofs.Common.{◌≡◌, false}
use Rattle.client_loop.specs.Asking.{scene}
use Rattle.client_loop.proofs.BothTurning.{Pending}
use Rattle.client_loop.proofs.both.ask_both.Given as goal

abbrev pub invariant-loop-left : goal.invariant-loop-left
invariant-loop-left g l = record {
  waits : Pending l.fn.number l.left 1000000 l.fn.first l.fn.second
      (scene l.fn.client (g.W.Words.stream l.fn.words) (g.E.Edge.deeds l.fn.edge) (g.E.Edge.waits l.fn.edge) (g.E.Edge.polls l.fn.edge) (g.C.Clock.given l.fn.clock))
      (scene l.client (g.W.Words.stream l.words) (g.E.Edge.deeds l.edge) (g.E.Edge.waits l.edge) (g.E.Edge.polls l.edge) (g.C.Clock.given l.clock)) l.replies;
  timeout : l.client.timeout ≡ l.fn.client.timeout;
  lasts : l.client.failed ≡ false;
}

abbrev pub decreases-loop-left : goal.decreases-loop-left
decreases-loop-left g l = l.left
