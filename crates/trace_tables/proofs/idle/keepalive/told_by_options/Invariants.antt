-- the options that are left tell what all tell
use Rattle.std.proofs.Common.{◌≡◌, length, None}
use Rattle.right_trace.specs.Messages.{keepalive_in}
use Rattle.trace_tables.proofs.idle.keepalive.told_by_options.Given as goal

abbrev pub invariant-loop-fuel : goal.invariant-loop-fuel
invariant-loop-fuel l = keepalive_in l.fuel l.rest l.found ≡ keepalive_in (length l.options) l.options None

abbrev pub decreases-loop-fuel : goal.decreases-loop-fuel
decreases-loop-fuel l = l.fuel
