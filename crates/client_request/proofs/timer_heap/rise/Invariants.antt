use Rattle.std.proofs.Common.{◌≤◌}
use Rattle.std.specs.List.Sorted.{IsPermutation}
use Rattle.std.proofs.HeapSift as sifts
use Rattle.client_request.specs.TimerHeap.{urgency_cmp}
use Rattle.client_request.proofs.TimerOrder.{urgency_total}
use Rattle.client_request.proofs.timer_heap.rise.Given as goal

abbrev pub invariant-loop-at : goal.invariant-loop-at
invariant-loop-at l =
    (l.at ≤ l.initial.at)
    × IsPermutation l.initial.heap l.heap
    × sifts.Rising urgency_cmp urgency_total l.initial.heap l.initial.at l.heap l.at

abbrev pub decreases-loop-at : goal.decreases-loop-at
decreases-loop-at l = l.at
