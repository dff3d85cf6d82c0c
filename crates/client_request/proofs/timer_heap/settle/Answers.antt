use Rattle.std.proofs.Common.{arith, ◌≡◌, true}
use Rattle.std.proofs.lemmas.List.Sorted.{length_permutation}
use Rattle.client_request.specs.TimerHeap.{top_is_cancelled}
use Rattle.client_request.proofs.TimerMoves.{drops_more, drops_top}
use Rattle.client_request.proofs.timer_heap.settle.Goals as goal

pub loop-heap-smaller : goal.loop-heap-smaller
loop-heap-smaller c =
    let before = c.loop-heap.heap.ok.0 in
    let after = c.pop_top-cancelled.new.heap.ok.0 in
    let long = length_permutation _ _ c.pop_top-cancelled.ensures.taken in
    omega arith

pub loop-heap-preserved : goal.loop-heap-preserved
loop-heap-preserved c =
    let told = c.pop_top-cancelled.ensures in
    let lent = c.deref.ensures.value in
    let tested = c.is_cancelled_at_top.ensures in
    let true' = c.loop-heap-test.true in
    let gone : top_is_cancelled c.args.table.now c.loop-heap.heap.items ≡ true = cc in
    drops_more _ _ _ _ c.loop-heap.invariant (drops_top _ _ _ c.pop_top-cancelled.result gone told.top told.taken told.order)
