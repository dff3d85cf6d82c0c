-- the outs that are left make of it what all make
use Rattle.std.proofs.Common.{◌≡◌, drop}
use Rattle.trace_points.specs.pass.Pass.{have_put}
use Rattle.trace_points.proofs.pass.pass.Pass.put_all.Given as goal

abbrev pub invariant-loop-out : goal.invariant-loop-out
invariant-loop-out l = have_put l.what (drop l.out-index l.outs) l.self ≡ have_put l.what l.outs l.fn.self
