-- what is left to be put leads where all lead
use Rattle.std.proofs.Common.{drop}
use Rattle.trace_hits.proofs.Stepping.{Puts}
use Rattle.trace_hits.proofs.course.Course.put_all.Given as goal

abbrev pub invariant-loop-out : goal.invariant-loop-out
invariant-loop-out l = Puts l.cache l.outs (drop l.out-index l.outs) l.fn.self l.self
