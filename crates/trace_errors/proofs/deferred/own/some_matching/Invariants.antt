-- those that are left tell what all tell
use Rattle.std.proofs.Common.{◌≡◌, drop}
use Rattle.trace_errors.specs.deferred.Own.{some_matching}
use Rattle.trace_errors.proofs.deferred.own.some_matching.Given as goal

abbrev pub invariant-loop-coming : goal.invariant-loop-coming
invariant-loop-coming l = some_matching l.request (drop l.coming-index l.comings) ≡ some_matching l.request l.comings
