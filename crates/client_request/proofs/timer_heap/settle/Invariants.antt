use Rattle.std.proofs.Common.{vec_len}
use Rattle.client_request.specs.TimerHeap.{DropsCancelled}
use Rattle.client_request.proofs.timer_heap.settle.Given as goal

abbrev pub invariant-loop-heap : goal.invariant-loop-heap
invariant-loop-heap l = DropsCancelled l.table l.initial.heap.items l.heap.items

abbrev pub decreases-loop-heap : goal.decreases-loop-heap
decreases-loop-heap l = vec_len l.heap
