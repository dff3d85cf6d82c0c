-- those that are left tell what all tell
use Rattle.std.proofs.Common.{◌≡◌, drop}
use Rattle.trace_errors.specs.Direct.{some_unkept}
use Rattle.trace_errors.proofs.direct.some_unkept.Given as goal

abbrev pub invariant-loop-coming : goal.invariant-loop-coming
invariant-loop-coming l = some_unkept l.settings l.request l.askings (drop l.coming-index l.comings) ≡ some_unkept l.settings l.request l.askings l.comings
