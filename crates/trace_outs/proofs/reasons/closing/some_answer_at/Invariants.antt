-- those that are left tell what all tell
use Rattle.std.proofs.Common.{◌≡◌, drop}
use Rattle.trace_outs.specs.reasons.Closing.{some_answer_at}
use Rattle.trace_outs.proofs.reasons.closing.some_answer_at.Given as goal

abbrev pub invariant-loop-coming : goal.invariant-loop-coming
invariant-loop-coming l = some_answer_at l.place l.request (drop l.coming-index l.comings) ≡ some_answer_at l.place l.request l.comings
