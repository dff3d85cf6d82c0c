use Rattle.std.proofs.Common.{arith, ◌-◌, ◌/◌, ◌<◌, ◌∙◌, length}
use Rattle.std.proofs.SliceLists.{again}
use Rattle.std.proofs.lemmas.List.Sorted.{IsPermutation-refl}
use Rattle.std.proofs.HeapSift as sifts
use Rattle.client_request.specs.TimerHeap.{urgency_cmp}
use Rattle.client_request.proofs.TimerOrder.{urgency_total, compares}
use Rattle.client_request.proofs.timer_heap.rise.Goals as goal

pub loop-at-init : goal.loop-at-init
loop-at-init c = (omega arith, IsPermutation-refl _, sifts.rise_begins urgency_cmp urgency_total _ c.args.at)

pub returns-then-not-goes_first-clause-rises : goal.returns-then-not-goes_first-clause-rises
returns-then-not-goes_first-clause-rises c =
    let l = c.loop-at in
    sifts.rise_rests urgency_cmp urgency_total _ _ c.args.at l.at
    (compares l.heap l.at ((l.at - 1) / 2) _ (λ d. c.goes_first.ensures d ∙ c.if-not-goes_first.true)) l.invariant.2

pub loop-at-preserved : goal.loop-at-preserved
loop-at-preserved c =
    let l = c.loop-at in
    let up = c.loop-at-test.true in
    let low = l.invariant.0 in
    let long = l.auto.heap in
    let within : l.at < length l.heap = omega arith in (
      omega arith,
      again _ _ _ c.swap.ensures.permutation l.invariant.1,
      sifts.rise_steps urgency_cmp urgency_total _ l.heap _ c.args.at l.at up low within c.swap.ensures.after
          (compares l.heap l.at ((l.at - 1) / 2) _ (λ d. c.goes_first.ensures d ∙ c.if-not-goes_first.false)) l.invariant.2,
    )

pub returns-clause-rises : goal.returns-clause-rises
returns-clause-rises c =
    let l = c.loop-at in
    let down = c.loop-at-test.false in
    sifts.rise_tops urgency_cmp urgency_total _ _ c.args.at l.at (omega arith) l.invariant.2
