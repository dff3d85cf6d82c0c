-- the messages that are left mark what all mark
use Rattle.std.proofs.Common.{◌≡◌, drop}
use Rattle.trace_errors.specs.Arrivals.{mark_all, is_unkept_later}
use Rattle.trace_errors.proofs.arrivals.mark_unkept.Given as goal

abbrev pub invariant-loop-coming : goal.invariant-loop-coming
invariant-loop-coming l = mark_all (is_unkept_later l.settings l.askings) (drop l.coming-index l.comings) l.marked ≡ mark_all (is_unkept_later l.settings l.askings) l.comings l.fn.marked
