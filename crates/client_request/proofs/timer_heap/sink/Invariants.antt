use Rattle.std.proofs.Common.{◌-◌, ◌≤◌, length}
use Rattle.std.specs.List.Sorted.{IsPermutation}
use Rattle.std.proofs.HeapSift as sifts
use Rattle.client_request.specs.TimerHeap.{urgency_cmp}
use Rattle.client_request.proofs.TimerOrder.{urgency_total}
use Rattle.client_request.proofs.timer_heap.sink.Given as goal

abbrev pub invariant-loop-at : goal.invariant-loop-at
invariant-loop-at l =
    (l.initial.at ≤ l.at)
    × IsPermutation l.initial.heap l.heap
    × sifts.Sinking urgency_cmp urgency_total l.initial.heap l.initial.at (length l.initial.heap) l.heap l.at

abbrev pub decreases-loop-at : goal.decreases-loop-at
decreases-loop-at l = length l.initial.heap - l.at
