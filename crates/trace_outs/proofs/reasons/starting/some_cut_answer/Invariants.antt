-- those that are left tell what all tell
use Rattle.std.proofs.Common.{◌≡◌, drop}
use Rattle.trace_outs.specs.reasons.Starting.{some_cut_answer}
use Rattle.trace_outs.proofs.reasons.starting.some_cut_answer.Given as goal

abbrev pub invariant-loop-coming : goal.invariant-loop-coming
invariant-loop-coming l = some_cut_answer l.request l.server (drop l.coming-index l.comings) ≡ some_cut_answer l.request l.server l.comings
