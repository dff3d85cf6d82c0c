-- the frames that are left tell what all tell
use Rattle.std.proofs.Common.{◌≡◌, [], drop}
use Rattle.trace_tables.specs.Lists.{listed}
use Rattle.trace_points.specs.due.Due.{idle_walk}
use Rattle.trace_points.proofs.due.due.is_due_behind.Given as goal

abbrev pub invariant-loop-frame : goal.invariant-loop-frame
invariant-loop-frame l = idle_walk l.freed (listed l.place l.waiting) l.quiet l.idle l.now (drop l.frame-index l.frames) ≡ idle_walk [] (listed l.place l.waiting) l.fn.quiet l.fn.idle l.now l.frames
