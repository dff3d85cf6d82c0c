-- those that are left bring what all bring
use Rattle.std.proofs.Common.{◌≡◌, drop}
use Rattle.trace_replies.specs.given.Coming.{some_brings}
use Rattle.trace_replies.proofs.given.coming.some_brings.Given as goal

abbrev pub invariant-loop-coming : goal.invariant-loop-coming
invariant-loop-coming l = some_brings l.request l.message (drop l.coming-index l.comings) ≡ some_brings l.request l.message l.comings
