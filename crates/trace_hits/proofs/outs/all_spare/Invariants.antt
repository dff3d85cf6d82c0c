-- the outs that are left say what all say
use Rattle.std.proofs.Common.{◌≡◌, drop}
use Rattle.std.specs.Prelude.{None}
use Rattle.trace_hits.specs.Outs.{all_spare}
use Rattle.trace_hits.proofs.outs.all_spare.Given as goal

abbrev pub invariant-loop-out : goal.invariant-loop-out
invariant-loop-out l = all_spare l.point.requests.askings l.key l.request l.mark (drop l.out-index l.outs) ≡ all_spare l.point.requests.askings l.key l.request None l.outs
