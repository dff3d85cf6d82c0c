-- those that are left tell what all tell
use Rattle.std.proofs.Common.{◌≡◌}
use Rattle.trace_outs.specs.busy.Busy.{some_serves}
use Rattle.trace_outs.proofs.busy.busy.Scene.some_serves.Given as goal

abbrev pub invariant-loop-start : goal.invariant-loop-start
invariant-loop-start l = record {
  can_next : (goal.iterator-loop-start).can_next l.start-iterator;
  is_finite : (goal.iterator-loop-start).is_finite l.start-iterator;
  same : some_serves l.self.conf.now l.request l.start-iterator l.self ≡ some_serves l.self.conf.now l.request l.starts l.self;
}
