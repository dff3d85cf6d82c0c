-- those that are left add what all add
use Rattle.std.proofs.Common.{◌≡◌, drop}
use Rattle.trace_errors.specs.promptness.Heard.{notes_all}
use Rattle.trace_errors.proofs.promptness.heard.note_all.Given as goal

abbrev pub invariant-loop-coming : goal.invariant-loop-coming
invariant-loop-coming l = notes_all (drop l.coming-index l.comings) l.heard ≡ notes_all l.comings l.fn.heard
