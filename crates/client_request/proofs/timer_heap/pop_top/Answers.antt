use Rattle.std.proofs.Common.{◌≡◌, sym, subst, arith, length, take, drop, List, ◌∷◌, ◌++◌}
use Rattle.std.proofs.lemmas.List.Sorted.{length_permutation}
use Rattle.std.specs.List.Sorted.{IsPermutation}
use Rattle.std.specs.BinaryHeap.{KeepsHeap}
use Rattle.std.specs.BinaryHeap.Sift.{SiftsDown}
use Rattle.client_request.specs.Timers.{Entry}
use Rattle.client_request.specs.TimerHeap.{urgency_cmp}
use Rattle.client_request.proofs.TimerMoves.{popped, written}
use Rattle.client_request.proofs.timer_heap.pop_top.Goals as goal

popped_top : (c : goal.After-heap-1) → KeepsHeap urgency_cmp c.args.heap.now.items c.sink.new.heap × IsPermutation c.args.heap.now.items (c.swap_remove-top.result ∷ c.sink.new.heap)
popped_top c =
    let ys = c.swap_remove-top.new.self.items in
    let took = c.swap_remove-top.ensures in
    let lent = c.as_mut_slice.ensures.value in
    let before = c.args.heap.now.ok.0 in
    let after = c.swap_remove-top.new.self.ok.0 in
    let moves = subst (λ (l : List Entry). IsPermutation l c.sink.new.heap) lent c.sink.ensures.moves in
    let sinks = subst (λ (l : List Entry). SiftsDown urgency_cmp l 0 (length l) c.sink.new.heap) lent c.sink.ensures.sinks in
    popped c.args.heap.now.items ys c.sink.new.heap c.swap_remove-top.result (omega (arith, took.len)) took.value took.items moves sinks

as_given : (c : goal.After-heap-1) → take c.swap_remove-top.new.self.len (c.sink.new.heap ++ drop (length c.sink.new.heap) c.swap_remove-top.new.self.items) ≡ c.sink.new.heap
as_given c =
    let after = c.swap_remove-top.new.self.ok.0 in
    let lent = c.as_mut_slice.ensures.len in
    let long = length_permutation _ _ c.sink.ensures.moves in
    written c.sink.new.heap c.swap_remove-top.new.self.items c.swap_remove-top.new.self.len (omega arith)

pub returns-clause-taken : goal.returns-clause-taken
returns-clause-taken c =
    subst (λ (l : List Entry). IsPermutation c.args.heap.now.items (c.swap_remove-top.result ∷ l)) (sym (as_given c)) (popped_top c).1

pub returns-clause-order : goal.returns-clause-order
returns-clause-order c = subst (KeepsHeap urgency_cmp c.args.heap.now.items) (sym (as_given c)) (popped_top c).0
