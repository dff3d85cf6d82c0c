-- the frames that are left tell what all tell
use Rattle.std.proofs.Common.{◌≡◌, drop}
use Rattle.trace_tables.specs.idle.Keepalive.{last_told}
use Rattle.trace_tables.proofs.idle.keepalive.last_told.Given as goal

abbrev pub invariant-loop-frame : goal.invariant-loop-frame
invariant-loop-frame l = last_told (drop l.frame-index l.frames) l.last ≡ last_told l.frames l.fn.before
