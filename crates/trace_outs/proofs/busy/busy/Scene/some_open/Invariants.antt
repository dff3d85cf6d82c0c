-- those that are left tell what all tell
use Rattle.std.proofs.Common.{◌≡◌}
use Rattle.trace_outs.specs.busy.Busy.{some_open}
use Rattle.trace_outs.proofs.busy.busy.Scene.some_open.Given as goal

abbrev pub invariant-loop-spot : goal.invariant-loop-spot
invariant-loop-spot l = record {
  can_next : (goal.iterator-loop-spot).can_next l.spot-iterator;
  is_finite : (goal.iterator-loop-spot).is_finite l.spot-iterator;
  same : some_open l.self.conf.now l.asked l.request l.spot-iterator l.self ≡ some_open l.self.conf.now l.asked l.request l.spots l.self;
}
