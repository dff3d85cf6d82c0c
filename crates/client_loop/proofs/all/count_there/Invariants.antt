use Rattle.std.proofs.Common.{◌≤◌, ◌-◌, length}
use Rattle.client_loop.specs.All.{there}
use Rattle.client_loop.proofs.all.count_there.Given as goal

abbrev pub invariant-loop-count : goal.invariant-loop-count
invariant-loop-count l = l.count ≤ there l.fn.replies

abbrev pub decreases-loop-count : goal.decreases-loop-count
decreases-loop-count l = length l.replies - l.count
