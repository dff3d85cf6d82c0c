use Rattle.std.proofs.Common.{◌≡◌, ◌∙◌, sym, subst, arith, length, take, drop, List, [], ◌∷◌, ◌++◌}
use Rattle.std.specs.List.Sorted.{IsPermutation}
use Rattle.std.specs.BinaryHeap.{KeepsHeap}
use Rattle.std.specs.BinaryHeap.Sift.{SiftsUp}
use Rattle.std.proofs.lemmas.List.Sorted.{length_permutation}
use Rattle.client_request.specs.Timers.{Entry}
use Rattle.client_request.specs.TimerHeap.{urgency_cmp}
use Rattle.client_request.proofs.TimerMoves.{pushed, written, chosen}
use Rattle.client_request.proofs.timer_heap.add.Goals as goal

put_last : (c : goal.After-heap-1) → KeepsHeap urgency_cmp c.args.heap.now.items c.rise.new.heap × IsPermutation ((c.args.due, c.args.id) ∷ c.args.heap.now.items) c.rise.new.heap
put_last c =
    let ys = c.push.new.self.items in
    let lent = c.as_mut_slice.ensures.value in
    let before = c.args.heap.now.ok.0 in
    let is : ys ≡ c.args.heap.now.items ++ (c.args.due, c.args.id) ∷ [] = chosen _ _ _ _ c.push.ensures.items c.if-is_err.ensures.negation in
    let moves = subst (λ (l : List Entry). IsPermutation l c.rise.new.heap) lent c.rise.ensures.moves in
    let rises = subst (λ (l : List Entry). SiftsUp urgency_cmp l c.len-last.result c.rise.new.heap) lent c.rise.ensures.rises in
    pushed c.args.heap.now.items ys c.rise.new.heap (c.args.due, c.args.id) c.len-last.result (c.len-last.ensures ∙ before) is moves rises

as_given : (c : goal.After-heap-1) → take c.push.new.self.len (c.rise.new.heap ++ drop (length c.rise.new.heap) c.push.new.self.items) ≡ c.rise.new.heap
as_given c =
    let after = c.push.new.self.ok.0 in
    let lent = c.as_mut_slice.ensures.len in
    let long = length_permutation _ _ c.rise.ensures.moves in
    written c.rise.new.heap c.push.new.self.items c.push.new.self.len (omega arith)

pub returns-clause-order : goal.returns-clause-order
returns-clause-order c = subst (KeepsHeap urgency_cmp c.args.heap.now.items) (sym (as_given c)) (put_last c).0

pub returns-clause-added : goal.returns-clause-added
returns-clause-added c = subst (IsPermutation ((c.args.due, c.args.id) ∷ c.args.heap.now.items)) (sym (as_given c)) (put_last c).1
