-- the sends that are left note what all note
use Rattle.std.proofs.Common.{◌≡◌}
use Rattle.trace_points.specs.causes.Failing.{failure}
use Rattle.trace_errors.specs.Noted.{note_all}
use Rattle.trace_errors.proofs.noted.note_failures.Given as goal

abbrev pub invariant-loop-sent : goal.invariant-loop-sent
invariant-loop-sent l = record {
  can_next : (goal.iterator-loop-sent).can_next l.sent-iterator;
  is_finite : (goal.iterator-loop-sent).is_finite l.sent-iterator;
  same : note_all (λ x. x.request) (λ x. failure l.conf l.past x.request l.what) l.sent-iterator l.noted ≡ note_all (λ x. x.request) (λ x. failure l.conf l.past x.request l.what) l.sends l.fn.noted;
}
