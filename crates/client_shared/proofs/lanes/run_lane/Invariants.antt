use Rattle.std.proofs.Common.{take}
use Rattle.client_shared.specs.Lanes.{IsLane}
use Rattle.client_shared.proofs.lanes.run_lane.Given as goal

abbrev pub invariant-loop-event : goal.invariant-loop-event
invariant-loop-event g l = IsLane l.initial.pass l.pass (take l.event-index l.events) l.receipts.items
