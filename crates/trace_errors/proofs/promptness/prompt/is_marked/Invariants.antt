-- the outs that are left mark what all mark
use Rattle.std.proofs.Common.{◌≡◌, drop}
use Rattle.trace_errors.specs.promptness.Prompt.{is_marked}
use Rattle.trace_errors.proofs.promptness.prompt.is_marked.Given as goal

abbrev pub invariant-loop-out : goal.invariant-loop-out
invariant-loop-out l = is_marked l.request (drop l.out-index l.outs) ≡ is_marked l.request l.outs
