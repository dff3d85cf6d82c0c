-- those that are left tell what all tell
use Rattle.std.proofs.Common.{◌≡◌, drop}
use Rattle.std.specs.List.{list_any}
use Rattle.trace_replies.specs.firsts.Failing.{fails_for}
use Rattle.trace_replies.proofs.firsts.failing.some_fails.Given as goal

abbrev pub invariant-loop-coming : goal.invariant-loop-coming
invariant-loop-coming l = list_any (fails_for l.request) (drop l.coming-index l.comings) ≡ list_any (fails_for l.request) l.comings
