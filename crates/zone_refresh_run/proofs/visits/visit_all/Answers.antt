use Rattle.std.proofs.Common.{◌≡◌, ◌<◌, length, arith}
use Rattle.std.proofs.lemmas.List.{get_or_default}
use Rattle.zone_refresh_run.proofs.Visiting.{all_visited, none_visited, visited_more}
use Rattle.zone_refresh_run.proofs.visits.visit_all.Goals as goal

pub loop-number-init : goal.loop-number-init
loop-number-init g c = none_visited g.W.World.does c.args.zones.now c.args.world.now

pub loop-number-preserved : goal.loop-number-preserved
loop-number-preserved g c =
    let same = c.loop-number.auto.zones in
    let below = c.loop-number-test.true in
    let within : c.loop-number.number < length c.loop-number.zones = omega (arith, same, below) in
    visited_more g.W.World.does c.loop-number.number c.args.zones.now c.loop-number.zones _ c.visit.new.zone c.args.world.now c.loop-number.world c.visit.new.world
    c.loop-number.invariant within c.visit.ensures (grind (arith, get_or_default))

pub returns : goal.returns
returns g c =
    let same = c.loop-number.auto.zones in
    let most = c.loop-number.auto.number-end in
    let least = c.loop-number-test.false in
    let all : c.loop-number.number ≡ length c.loop-number.zones = omega (arith, same, most, least) in
    all_visited g.W.World.does c.loop-number.number c.args.zones.now c.loop-number.zones c.args.world.now c.loop-number.world c.loop-number.invariant all
