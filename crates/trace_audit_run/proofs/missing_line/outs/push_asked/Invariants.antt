-- what the outs before the index say has been added
use Rattle.std.proofs.Common.{◌≡◌, ◌++◌, take}
use Rattle.std.specs.List.{flat_map}
use Rattle.trace_audit_run.specs.missing_line.Words.{asked_words}
use Rattle.trace_audit_run.proofs.missing_line.outs.push_asked.Given as goal

abbrev pub invariant-loop-out : goal.invariant-loop-out
invariant-loop-out l = l.text.items ≡ l.fn.text.items ++ flat_map (asked_words l.clause) (take l.out-index l.outs)
