-- what is left of the base and of what is read gives what all gives
use Rattle.std.proofs.Common.{◌≡◌}
use Rattle.message_judging.specs.matching.Matching.{carries_items}
use Rattle.message_judging.proofs.matching.records.are_copies.Given as goal

abbrev pub invariant-loop-source : goal.invariant-loop-source
invariant-loop-source l = record {
  can_next : (goal.iterator-loop-source).can_next l.source-iterator;
  is_finite : (goal.iterator-loop-source).is_finite l.source-iterator;
  same : carries_items l.section l.opt l.found l.source-iterator ≡ carries_items l.section l.opt l.fn.found l.fn.base;
}
