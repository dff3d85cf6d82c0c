-- the turns so far
use Rattle.std.proofs.Common.{◌≡◌, false}
use Rattle.stream_turns.specs.Turns.{client_with}
use Rattle.zone_transfer.proofs.Turns.{Going}
use Rattle.zone_transfer.specs.Turning.{scene}
use Rattle.zone_transfer.proofs.asked.Asked.read_all.Given as goal

abbrev pub invariant-turns : goal.invariant-turns
invariant-turns g l = record {
  going : Going l.fn.reading.state (client_with (g.W.Words.stream l.fn.words) l.fn.self.transfer) l.fn.self.left
      (scene (g.E.Edge.deeds l.fn.edge) (g.E.Edge.polls l.fn.edge) (g.C.Clock.given l.fn.clock)) (scene (g.E.Edge.deeds l.edge) (g.E.Edge.polls l.edge) (g.C.Clock.given l.clock))
      l.reading.state (client_with (g.W.Words.stream l.words) l.self.transfer) l.self.left;
  most : l.reading.most ≡ l.fn.reading.most;
  ticket : l.self.response.ticket ≡ 0;
  open_yet : l.self.response.ended ≡ false;
  lasts : l.self.transfer.failed ≡ false;
}

abbrev pub decreases-turns : goal.decreases-turns
decreases-turns g l = l.self.left
