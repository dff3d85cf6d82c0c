-- the outs that are left give what all give
use Rattle.std.proofs.Common.{◌≡◌, drop}
use Rattle.trace_hits.specs.timely.Waiting.{have_put}
use Rattle.trace_hits.proofs.timely.waiting.Waiting.put_all.Given as goal

abbrev pub invariant-loop-out : goal.invariant-loop-out
invariant-loop-out l = have_put (drop l.out-index l.outs) l.self ≡ have_put l.outs l.fn.self
