use Rattle.client_request.proofs.TimerKept.{none_kept}
use Rattle.client_request.proofs.timers.Timers.new.Goals as goal

pub invariant_of-result : goal.invariant_of-result
invariant_of-result c = none_kept _ _ c.new-2.ensures c.new.ensures.items
