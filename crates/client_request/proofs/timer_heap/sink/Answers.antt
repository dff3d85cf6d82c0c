use Rattle.std.proofs.Common.{arith, ◌∙◌, subst}
use Rattle.std.specs.BinaryHeap.Sift.{IsGreaterChild}
use Rattle.std.proofs.SliceLists.{again}
use Rattle.std.proofs.lemmas.List.Sorted.{IsPermutation-refl}
use Rattle.std.proofs.HeapSift as sifts
use Rattle.client_request.specs.TimerHeap.{urgency_cmp}
use Rattle.client_request.proofs.TimerOrder.{urgency_total, compares}
use Rattle.client_request.proofs.timer_heap.sink.Goals as goal

pub loop-at-init : goal.loop-at-init
loop-at-init c = (omega arith, IsPermutation-refl _, sifts.sink_begins urgency_cmp urgency_total _ c.args.at _)

pub returns-then-not-goes_first-clause-sinks : goal.returns-then-not-goes_first-clause-sinks
returns-then-not-goes_first-clause-sinks c =
    let l = c.loop-at in
    let child = c.first_child-child.result in
    let long = l.auto.heap in
    sifts.sink_rests urgency_cmp urgency_total _ _ c.args.at _ l.at child (subst (IsGreaterChild urgency_cmp l.heap l.at child) long c.first_child-child.ensures.first)
    (compares l.heap child l.at _ (λ d. c.goes_first.ensures d ∙ c.if-not-goes_first.true)) l.invariant.2

pub loop-at-preserved : goal.loop-at-preserved
loop-at-preserved c =
    let l = c.loop-at in
    let child = c.first_child-child.result in
    let told = c.first_child-child.ensures in
    let low = l.invariant.0 in
    let long = l.auto.heap in (
      omega arith,
      again _ _ _ c.swap.ensures.permutation l.invariant.1,
      sifts.sink_steps urgency_cmp urgency_total _ l.heap _ c.args.at _ l.at child low told.from told.to (omega arith) (omega arith) c.swap.ensures.after
          (subst (IsGreaterChild urgency_cmp l.heap l.at child) long told.first)
          (compares l.heap child l.at _ (λ d. c.goes_first.ensures d ∙ c.if-not-goes_first.false)) l.invariant.2,
    )

pub returns-clause-sinks : goal.returns-clause-sinks
returns-clause-sinks c =
    let l = c.loop-at in
    sifts.sink_ends urgency_cmp urgency_total _ _ c.args.at _ l.at c.loop-at-test.false l.invariant.2
