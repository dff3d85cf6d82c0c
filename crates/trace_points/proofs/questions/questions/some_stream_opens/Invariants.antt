-- the entries that are left give what all give
use Rattle.std.proofs.Common.{◌≡◌}
use Rattle.trace_points.specs.questions.Searching.{opening_stream, some_entry}
use Rattle.trace_points.proofs.questions.questions.some_stream_opens.Given as goal

abbrev pub invariant-loop-number : goal.invariant-loop-number
invariant-loop-number l = record {
  can_next : (goal.iterator-loop-number).can_next l.number-iterator;
  is_finite : (goal.iterator-loop-number).is_finite l.number-iterator;
  same : some_entry (opening_stream l.server) l.places l.number-iterator ≡ some_entry (opening_stream l.server) l.places l.places;
}
