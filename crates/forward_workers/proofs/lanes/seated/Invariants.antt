use Rattle.std.proofs.Common.{◌≡◌, ◌++◌, map, length}
use Rattle.forward_workers.specs.Sharing.{passes_of}
use Rattle.forward_workers.proofs.lanes.seated.Given as goal

-- those that have a place, and those that have none yet, are all
abbrev pub invariant-loop-own : goal.invariant-loop-own
invariant-loop-own g l = record {
  passes : passes_of l.lanes.items ++ l.passes.items ≡ l.fn.passes.items;
  workers : map (λ lane. lane.own) l.lanes.items ++ l.workers.items ≡ l.fn.workers.items;
  same : length l.passes.items ≡ length l.workers.items;
}

abbrev pub decreases-loop-own : goal.decreases-loop-own
decreases-loop-own g l = length l.workers.items
