-- those that are left tell what all tell
use Rattle.trace_errors.specs.Openings.{IsRefusedAmong}
use Rattle.trace_errors.proofs.openings.is_refused_among.Given as goal

abbrev pub invariant-loop-start : goal.invariant-loop-start
invariant-loop-start l = record {
  can_next : (goal.iterator-loop-start).can_next l.start-iterator;
  is_finite : (goal.iterator-loop-start).is_finite l.start-iterator;
  left : IsRefusedAmong l.fault l.refused l.begun → IsRefusedAmong l.fault l.refused l.start-iterator;
  back : IsRefusedAmong l.fault l.refused l.start-iterator → IsRefusedAmong l.fault l.refused l.begun;
}
