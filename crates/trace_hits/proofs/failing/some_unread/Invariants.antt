-- those that are left tell what all tell
use Rattle.std.proofs.Common.{◌≡◌, drop}
use Rattle.std.specs.List.{list_any}
use Rattle.trace_hits.specs.Failing.{is_unread}
use Rattle.trace_hits.proofs.failing.some_unread.Given as goal

abbrev pub invariant-loop-coming : goal.invariant-loop-coming
invariant-loop-coming l = list_any (is_unread l.settings l.request l.askings) (drop l.coming-index l.comings) ≡ list_any (is_unread l.settings l.request l.askings) l.comings
