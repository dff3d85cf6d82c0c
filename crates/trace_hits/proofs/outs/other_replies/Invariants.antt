-- what is counted and what is left are all, and no out counts twice
use Rattle.std.proofs.Common.{◌≡◌, ◌+◌, ◌≤◌, drop}
use Rattle.trace_hits.specs.Outs.{others}
use Rattle.trace_hits.proofs.outs.other_replies.Given as goal

abbrev pub invariant-loop-out : goal.invariant-loop-out
invariant-loop-out l = (l.count + others l.request (drop l.out-index l.outs) ≡ others l.request l.outs) × (l.count ≤ l.out-index)
