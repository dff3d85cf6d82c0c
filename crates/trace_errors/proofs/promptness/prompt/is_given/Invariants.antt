-- the outs that are left give what all give
use Rattle.std.proofs.Common.{◌≡◌, drop}
use Rattle.trace_errors.specs.promptness.Prompt.{is_given}
use Rattle.trace_errors.proofs.promptness.prompt.is_given.Given as goal

abbrev pub invariant-loop-out : goal.invariant-loop-out
invariant-loop-out l = is_given l.request l.message (drop l.out-index l.outs) ≡ is_given l.request l.message l.outs
