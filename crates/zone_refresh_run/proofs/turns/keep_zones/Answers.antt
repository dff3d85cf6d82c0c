use Rattle.std.proofs.Common.{◌≡◌, ℕ, subst, arith}
use Rattle.zone_refresh_run.specs.Turns.{AreKept}
use Rattle.zone_refresh_run.proofs.Turning.{kept_more, none_kept}
use Rattle.zone_refresh_run.proofs.turns.keep_zones.Goals as goal

pub loop-init : goal.loop-init
loop-init g c = none_kept g.W.World.does c.args.zones.now c.args.world.now

pub loop-preserved : goal.loop-preserved
loop-preserved g c =
    kept_more g.W.World.does c.loop.counter c.args.zones.now c.loop.zones c.turn.new.zones c.args.world.now c.loop.world c.turn.new.world c.loop.invariant c.turn.ensures

pub returns : goal.returns
returns g c =
    let most = c.loop.auto.counter-end in
    let least = c.loop-test.false in
    let all : c.loop.counter ≡ c.args.turns = omega arith in
    subst (λ (n : ℕ). AreKept g.W.World.does n c.args.zones.now c.loop.zones c.args.world.now c.loop.world) all c.loop.invariant
