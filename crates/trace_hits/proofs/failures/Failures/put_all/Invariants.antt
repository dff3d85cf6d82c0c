-- the outs that are left give what all give
use Rattle.std.proofs.Common.{◌≡◌, drop}
use Rattle.trace_hits.specs.Failures.{have_put}
use Rattle.trace_hits.proofs.failures.Failures.put_all.Given as goal

abbrev pub invariant-loop-out : goal.invariant-loop-out
invariant-loop-out l = have_put l.conf l.settings l.what (drop l.out-index l.outs) l.self ≡ have_put l.conf l.settings l.what l.outs l.fn.self
