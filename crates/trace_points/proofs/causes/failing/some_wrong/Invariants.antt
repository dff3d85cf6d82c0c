-- those that are left tell what all tell
use Rattle.std.proofs.Common.{◌≡◌, drop}
use Rattle.trace_points.specs.causes.Failing.{some_wrong}
use Rattle.trace_points.proofs.causes.failing.some_wrong.Given as goal

abbrev pub invariant-loop-coming : goal.invariant-loop-coming
invariant-loop-coming l = some_wrong l.request (drop l.coming-index l.comings) ≡ some_wrong l.request l.comings
