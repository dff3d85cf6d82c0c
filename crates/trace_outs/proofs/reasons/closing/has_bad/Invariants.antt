-- the frames that are left tell what all tell
use Rattle.std.proofs.Common.{◌≡◌, drop}
use Rattle.trace_outs.specs.reasons.Closing.{bad_in}
use Rattle.trace_outs.proofs.reasons.closing.has_bad.Given as goal

abbrev pub invariant-loop-frame : goal.invariant-loop-frame
invariant-loop-frame l = bad_in (drop l.frame-index l.frames) ≡ bad_in l.frames
