-- the outs that are left give what all give
use Rattle.std.proofs.Common.{◌≡◌, drop}
use Rattle.trace_hits.specs.Outs.{reply_to}
use Rattle.trace_hits.proofs.outs.reply_to.Given as goal

abbrev pub invariant-loop-out : goal.invariant-loop-out
invariant-loop-out l = reply_to l.request (drop l.out-index l.outs) ≡ reply_to l.request l.outs
