-- those that are left tell what all tell
use Rattle.std.proofs.Common.{◌≡◌}
use Rattle.trace_outs.specs.busy.Busy.{all_busy}
use Rattle.trace_outs.proofs.busy.busy.Scene.all_busy.Given as goal

abbrev pub invariant-loop-request : goal.invariant-loop-request
invariant-loop-request l = record {
  can_next : (goal.iterator-loop-request).can_next l.request-iterator;
  is_finite : (goal.iterator-loop-request).is_finite l.request-iterator;
  same : all_busy l.self.conf.now l.self l.request-iterator ≡ all_busy l.self.conf.now l.self l.requests;
}
