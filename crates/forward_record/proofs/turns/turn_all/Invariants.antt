use Rattle.std.proofs.Common.{◌≡◌, false}
use Rattle.forward_record.specs.Telling.{HasTold}
use Rattle.forward_record.specs.Turns.{scene}
use Rattle.forward_record.proofs.Turning.{TurnedSo}
use Rattle.forward_record.proofs.turns.turn_all.Given as goal

abbrev pub invariant-loop-left : goal.invariant-loop-left
invariant-loop-left g l = record {
  so : TurnedSo g.K.Sink.held l.fn.turns l.left l.answered
      (scene l.fn.forwarder (g.W.Words.stream l.fn.words) (g.F.Front.deeds l.fn.front) (g.F.Front.polls l.fn.front) (g.C.Clock.given l.fn.clock))
      (scene l.forwarder (g.W.Words.stream l.words) (g.F.Front.deeds l.front) (g.F.Front.polls l.front) (g.C.Clock.given l.clock));
  lasts : l.forwarder.failed ≡ false;
  told : HasTold (g.L.Sink.held l.fn.errors) (g.L.Sink.held l.errors) (g.L.Sink.faults l.fn.errors) (g.L.Sink.faults l.errors);
}

abbrev pub decreases-loop-left : goal.decreases-loop-left
decreases-loop-left g l = l.left
