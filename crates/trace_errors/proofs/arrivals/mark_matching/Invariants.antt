-- the messages that are left mark what all mark
use Rattle.std.proofs.Common.{◌≡◌, drop}
use Rattle.trace_errors.specs.promptness.Prompt.{matches}
use Rattle.trace_errors.specs.Arrivals.{mark_all}
use Rattle.trace_errors.proofs.arrivals.mark_matching.Given as goal

abbrev pub invariant-loop-coming : goal.invariant-loop-coming
invariant-loop-coming l = mark_all matches (drop l.coming-index l.comings) l.marked ≡ mark_all matches l.comings l.fn.marked
