-- those that are left tell what all tell
use Rattle.std.proofs.Common.{◌≡◌, drop}
use Rattle.std.specs.List.{list_any}
use Rattle.trace_replies.specs.firsts.Failing.{fails_now}
use Rattle.trace_replies.proofs.firsts.failing.some_fails_now.Given as goal

abbrev pub invariant-loop-coming : goal.invariant-loop-coming
invariant-loop-coming l = list_any (fails_now l.settings l.request) (drop l.coming-index l.comings) ≡ list_any (fails_now l.settings l.request) l.comings
