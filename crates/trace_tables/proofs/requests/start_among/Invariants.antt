-- those that are left give what all give
use Rattle.std.proofs.Common.{◌≡◌}
use Rattle.trace_tables.specs.Requests.{start_of}
use Rattle.trace_tables.proofs.requests.start_among.Given as goal

abbrev pub invariant-loop-start : goal.invariant-loop-start
invariant-loop-start l = record {
  can_next : (goal.iterator-loop-start).can_next l.start-iterator;
  is_finite : (goal.iterator-loop-start).is_finite l.start-iterator;
  same : start_of l.server l.via l.start-iterator ≡ start_of l.server l.via l.starts;
}
