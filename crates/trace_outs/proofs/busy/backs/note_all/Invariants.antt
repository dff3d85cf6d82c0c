-- the places that are left note what all note
use Rattle.std.proofs.Common.{◌≡◌}
use Rattle.trace_outs.specs.busy.Backs.{are_used}
use Rattle.trace_outs.proofs.busy.backs.note_all.Given as goal

abbrev pub invariant-loop-number : goal.invariant-loop-number
invariant-loop-number l = record {
  can_next : (goal.iterator-loop-number).can_next l.number-iterator;
  is_finite : (goal.iterator-loop-number).is_finite l.number-iterator;
  same : are_used l.moment l.places l.number-iterator l.backs ≡ are_used l.moment l.places l.full l.fn.backs;
}
