-- the frames that are left bring what all bring
use Rattle.std.proofs.Common.{◌≡◌, drop}
use Rattle.trace_points.specs.due.Loose.{brings_seen}
use Rattle.trace_outs.proofs.busy.busy.brings.Given as goal

abbrev pub invariant-loop-frame : goal.invariant-loop-frame
invariant-loop-frame l = brings_seen l.id (drop l.frame-index l.frames) ≡ brings_seen l.id l.frames
