-- what is left of those that were looked at
use Rattle.std.proofs.Common.{◌≡◌}
use Rattle.trace_points.specs.exchanges.Open.{left_open}
use Rattle.trace_points.proofs.exchanges.open.left_by.Given as goal

abbrev pub invariant-loop-send : goal.invariant-loop-send
invariant-loop-send l = l.left ≡ left_open l.messages l.askings l.yielded
