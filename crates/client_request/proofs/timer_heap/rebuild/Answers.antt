use Rattle.std.proofs.Common.{arith, ℕ, ◌-◌, subst}
use Rattle.std.proofs.SliceLists.{again}
use Rattle.std.proofs.lemmas.List.Sorted.{IsPermutation-refl}
use Rattle.std.specs.BinaryHeap.Sift.{SiftsDown}
use Rattle.std.proofs.HeapSift as sifts
use Rattle.client_request.specs.TimerHeap.{urgency_cmp}
use Rattle.client_request.proofs.TimerOrder.{urgency_total}
use Rattle.client_request.proofs.timer_heap.rebuild.Goals as goal

pub loop-at-init : goal.loop-at-init
loop-at-init c = (IsPermutation-refl _, sifts.build_begins urgency_cmp urgency_total _ _)

pub loop-at-preserved : goal.loop-at-preserved
loop-at-preserved c =
    let l = c.loop-at in
    let told = c.sink.ensures in (
      again _ _ _ told.moves l.invariant.0,
      sifts.build_steps urgency_cmp urgency_total l.heap c.sink.new.heap l.at _ c.loop-at-test.true
          (subst (λ (n : ℕ). SiftsDown urgency_cmp l.heap (l.at - 1) n c.sink.new.heap) l.auto.heap told.sinks) l.invariant.1,
    )

pub returns-clause-order : goal.returns-clause-order
returns-clause-order c =
    let l = c.loop-at in
    let low = c.loop-at-test.false in
    sifts.build_ends urgency_cmp urgency_total l.heap l.at _ (omega arith) l.auto.heap l.invariant.1
