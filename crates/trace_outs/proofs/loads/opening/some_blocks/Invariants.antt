-- the places that are left tell what all tell
use Rattle.std.proofs.Common.{◌≡◌}
use Rattle.trace_tables.specs.sets.Sets.{some_of}
use Rattle.trace_outs.specs.loads.Opening.{blocks_at}
use Rattle.trace_outs.proofs.loads.opening.some_blocks.Given as goal

abbrev pub invariant-loop-number : goal.invariant-loop-number
invariant-loop-number l = record {
  can_next : (goal.iterator-loop-number).can_next l.number-iterator;
  is_finite : (goal.iterator-loop-number).is_finite l.number-iterator;
  same : some_of (blocks_at l.places l.held) l.number-iterator ≡ some_of (blocks_at l.places l.held) l.numbers;
}
