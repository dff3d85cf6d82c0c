-- the outs that are left say what all say
use Rattle.std.proofs.Common.{◌≡◌, drop}
use Rattle.trace_hits.specs.Outs.{is_handed}
use Rattle.trace_hits.proofs.outs.is_handed.Given as goal

abbrev pub invariant-loop-out : goal.invariant-loop-out
invariant-loop-out l = is_handed l.request (drop l.out-index l.outs) ≡ is_handed l.request l.outs
