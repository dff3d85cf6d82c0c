-- the outs that are left say what all say
use Rattle.std.proofs.Common.{◌≡◌, drop}
use Rattle.trace_hits.specs.Outs.{has_mark}
use Rattle.trace_hits.proofs.outs.has_mark.Given as goal

abbrev pub invariant-loop-out : goal.invariant-loop-out
invariant-loop-out l = has_mark l.request (drop l.out-index l.outs) ≡ has_mark l.request l.outs
