-- the outs that are left lead to all
use Rattle.std.proofs.Common.{drop}
use Rattle.trace_judge.proofs.Stepping.{Amid}
use Rattle.trace_judge.proofs.course.Course.run.Given as goal

abbrev pub invariant-loop-out : goal.invariant-loop-out
invariant-loop-out l = Amid l.case l.outs (drop l.out-index l.outs) l.fn.self l.self l.kept
