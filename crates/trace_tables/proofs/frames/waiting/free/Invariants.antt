-- the frames that are left free what all free
use Rattle.std.proofs.Common.{◌≡◌, drop}
use Rattle.trace_tables.specs.frames.Waiting.{freed_by}
use Rattle.trace_tables.proofs.frames.waiting.free.Given as goal

abbrev pub invariant-loop-frame : goal.invariant-loop-frame
invariant-loop-frame l = freed_by (drop l.frame-index l.frames) l.waiting ≡ freed_by l.frames l.fn.waiting
