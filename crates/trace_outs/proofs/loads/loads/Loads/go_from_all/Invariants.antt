-- the starts that are left do what all do
use Rattle.std.proofs.Common.{◌≡◌}
use Rattle.trace_outs.specs.loads.Loads.{goes_from_all}
use Rattle.trace_outs.proofs.loads.loads.Loads.go_from_all.Given as goal

abbrev pub invariant-loop-start : goal.invariant-loop-start
invariant-loop-start l = record {
  can_next : (goal.iterator-loop-start).can_next l.start-iterator;
  is_finite : (goal.iterator-loop-start).is_finite l.start-iterator;
  same : goes_from_all l.conf l.request l.start-iterator l.self ≡ goes_from_all l.conf l.request l.starts l.fn.self;
}
