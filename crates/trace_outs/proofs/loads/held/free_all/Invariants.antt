-- the frames that are left free what all free
use Rattle.std.proofs.Common.{◌≡◌, drop}
use Rattle.trace_outs.specs.loads.Held.{frees_all}
use Rattle.trace_outs.proofs.loads.held.free_all.Given as goal

abbrev pub invariant-loop-frame : goal.invariant-loop-frame
invariant-loop-frame l = frees_all l.place (drop l.frame-index l.frames) l.ids ≡ frees_all l.place l.frames l.fn.ids
