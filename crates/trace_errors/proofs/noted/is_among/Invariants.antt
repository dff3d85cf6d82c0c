-- those that are left tell what all tell
use Rattle.right_trace.specs.Parts.{IsIn}
use Rattle.trace_errors.specs.Failing.{error_of}
use Rattle.trace_errors.proofs.noted.is_among.Given as goal

abbrev pub invariant-loop-one : goal.invariant-loop-one
invariant-loop-one l = record {
  can_next : (goal.iterator-loop-one).can_next l.one-iterator;
  is_finite : (goal.iterator-loop-one).is_finite l.one-iterator;
  left : IsIn (error_of l.wanted) l.errors → IsIn (error_of l.wanted) l.one-iterator;
  back : IsIn (error_of l.wanted) l.one-iterator → IsIn (error_of l.wanted) l.errors;
}
