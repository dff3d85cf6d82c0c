use Rattle.std.proofs.Common.{◌≡◌, arith, ◌+◌, ◌*◌, ◌∙◌, subst, length, true, false}
use Rattle.std.proofs.HeapSift as sifts
use Rattle.std.specs.BinaryHeap.Sift.{IsGreaterChild}
use Rattle.client_request.specs.TimerHeap.{urgency_cmp}
use Rattle.client_request.proofs.TimerOrder.{urgency_total, compares}
use Rattle.client_request.proofs.timer_heap.first_child.Goals as goal

pub returns-then-heap-right-clause-first : goal.returns-then-heap-right-clause-first
returns-then-heap-right-clause-first c =
    sifts.only_child urgency_cmp urgency_total _ c.args.at (2 * c.args.at + 1) _ (omega arith) (omega arith)

pub returns-then-goes_first-clause-first : goal.returns-then-goes_first-clause-first
returns-then-goes_first-clause-first c =
    let xs = c.args.heap.now in
    let left = 2 * c.args.at + 1 in
    let same : left + 0 ≡ left = omega arith in
    let told = sifts.either_child urgency_cmp urgency_total xs c.args.at left (length xs) true (omega arith) (compares xs left (left + 1) true (λ d. c.goes_first.ensures d ∙ c.if-goes_first.true)) in
    subst (λ k. IsGreaterChild urgency_cmp xs c.args.at k (length xs)) same told.1

pub returns-else-goes_first-clause-first : goal.returns-else-goes_first-clause-first
returns-else-goes_first-clause-first c =
    let xs = c.args.heap.now in
    let left = 2 * c.args.at + 1 in
    (sifts.either_child urgency_cmp urgency_total xs c.args.at left (length xs) false (omega arith) (compares xs left (left + 1) false (λ d. c.goes_first.ensures d ∙ c.if-goes_first.false))).1
