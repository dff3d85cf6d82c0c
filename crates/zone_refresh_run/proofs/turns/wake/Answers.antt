use Rattle.std.proofs.Common.{◌≤◌, length, arith}
use Rattle.zone_refresh_run.proofs.Waking.{wakes_first, wakes_last}
use Rattle.zone_refresh_run.proofs.turns.wake.Goals as goal

pub loop-zone-init : goal.loop-zone-init
loop-zone-init c = record { least = wakes_first c.args.zones.now; counts = omega arith }

pub returns : goal.returns
returns c =
    let least = c.loop-zone-test.false in
    let all : length c.args.zones.now ≤ c.loop-zone.zone-index = omega (arith, least) in
    wakes_last c.loop-zone.zone-index c.loop-zone.wake c.args.zones.now all c.loop-zone.invariant.counts c.loop-zone.invariant.least
