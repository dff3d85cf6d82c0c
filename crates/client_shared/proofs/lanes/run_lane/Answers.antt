use Rattle.std.proofs.Common.{◌≡◌, ◌+◌, List, [], ◌∷◌, ◌++◌, take, Err, sym, ap, subst, ◌∙◌}
use Rattle.client_shared.specs.declared.entry.Receipt.{Receipt}
use Rattle.client_shared.specs.Lanes.{IsLane}
use Rattle.client_shared.proofs.LaneSteps.{lane_next, lane_fails}
use Rattle.client_shared.proofs.lanes.run_lane.Goals as goal

pub returns-in-Err : goal.returns-in-Err
returns-in-Err g c =
    lane_fails g.L.ClientKey.opening c.args.pass.now c.loop-event.pass c.submit.new.pass c.args.events.now c.loop-event.event-index c.event-item.result c.in-Ok.event c.loop-event.receipts.items c.in-Err.error
    c.loop-event-test.true c.event-item.is c.in-Ok.ensures.same c.loop-event.invariant (λ f. c.in-Err.ensures.behind (ap Err f)) c.in-Err.ensures.refused (λ n. c.in-Err.ensures.numbers (ap Err n))

pub loop-event-preserved : goal.loop-event-preserved
loop-event-preserved g c =
    let receipt = c.in-Ok-submit.receipt in
    let grown : c.push_reserved.new.self.items ≡ c.loop-event.receipts.items ++ receipt ∷ [] = c.push_reserved.ensures.items ∙ ap (λ (xs : List Receipt). xs ++ receipt ∷ []) c.reserve.ensures.items in
    subst (λ (receipts : List Receipt). IsLane c.args.pass.now c.submit.new.pass (take (c.loop-event.event-index + 1) c.args.events.now) receipts) (sym grown)
    (lane_next c.args.pass.now c.loop-event.pass c.submit.new.pass c.args.events.now c.loop-event.event-index c.event-item.result c.in-Ok.event c.loop-event.receipts.items receipt
    c.loop-event-test.true c.event-item.is c.in-Ok.ensures.same c.loop-event.invariant c.in-Ok-submit.ensures.ok)
