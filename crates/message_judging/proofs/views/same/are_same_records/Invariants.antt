-- what is left of both gives what both give
use Rattle.std.proofs.Common.{◌≡◌, length}
use Rattle.message_judging.specs.views.Same.{same_records}
use Rattle.message_judging.proofs.views.same.are_same_records.Given as goal

abbrev pub invariant-items : goal.invariant-items
invariant-items l = record {
  can_next : (goal.iterator-items).can_next l.a;
  is_finite : (goal.iterator-items).is_finite l.a;
  same : same_records l.fn.a l.fn.b ≡ same_records l.a l.b;
}

abbrev pub decreases-items : goal.decreases-items
decreases-items l = length l.a
