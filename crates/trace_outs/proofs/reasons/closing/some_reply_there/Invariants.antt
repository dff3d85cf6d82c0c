-- the outs that are left tell what all tell
use Rattle.std.proofs.Common.{◌≡◌, drop}
use Rattle.trace_outs.specs.reasons.Closing.{some_reply_there}
use Rattle.trace_outs.proofs.reasons.closing.some_reply_there.Given as goal

abbrev pub invariant-loop-out : goal.invariant-loop-out
invariant-loop-out l = some_reply_there l.server l.past l.here (drop l.out-index l.outs) ≡ some_reply_there l.server l.past l.here l.outs
