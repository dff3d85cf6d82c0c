use Rattle.std.proofs.Common.{◌≡◌, length}
use Rattle.forward_workers.proofs.Sharings.{Settling}
use Rattle.forward_workers.proofs.lanes.settle_all.Given as goal

abbrev pub invariant-loop-next : goal.invariant-loop-next
invariant-loop-next g l = record {
  same : l.closed.desk ≡ l.fn.closed.desk;
  settled : Settling l.fn.closed.desk l.fn.done.items l.left.items l.workers.items l.answered;
}

abbrev pub decreases-loop-next : goal.decreases-loop-next
decreases-loop-next g l = length l.left.items
