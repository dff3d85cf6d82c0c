-- the marks that are left stand where all stand
use Rattle.std.proofs.Common.{◌≡◌, length}
use Rattle.trace_points.specs.questions.Marks.{marks_seen}
use Rattle.trace_points.proofs.questions.marks.all_marks_stand.Given as goal

abbrev pub invariant-loop-out : goal.invariant-loop-out
invariant-loop-out l = marks_seen l.left ≡ marks_seen l.outs

abbrev pub decreases-loop-out : goal.decreases-loop-out
decreases-loop-out l = length l.left
