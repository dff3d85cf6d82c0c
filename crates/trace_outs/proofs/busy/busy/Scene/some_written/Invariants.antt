-- those that are left tell what all tell
use Rattle.std.proofs.Common.{◌≡◌}
use Rattle.trace_outs.specs.busy.Busy.{some_written}
use Rattle.trace_outs.proofs.busy.busy.Scene.some_written.Given as goal

abbrev pub invariant-loop-written : goal.invariant-loop-written
invariant-loop-written l = record {
  can_next : (goal.iterator-loop-written).can_next l.written-iterator;
  is_finite : (goal.iterator-loop-written).is_finite l.written-iterator;
  same : some_written l.self.conf.now l.asked l.request l.id l.written-iterator l.self ≡ some_written l.self.conf.now l.asked l.request l.id l.writes l.self;
}
