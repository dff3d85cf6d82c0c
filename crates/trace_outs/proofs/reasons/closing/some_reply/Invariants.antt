-- the outs that are left tell what all tell
use Rattle.std.proofs.Common.{◌≡◌, drop}
use Rattle.trace_outs.specs.reasons.Closing.{some_reply}
use Rattle.trace_outs.proofs.reasons.closing.some_reply.Given as goal

abbrev pub invariant-loop-out : goal.invariant-loop-out
invariant-loop-out l = some_reply l.request (drop l.out-index l.outs) ≡ some_reply l.request l.outs
