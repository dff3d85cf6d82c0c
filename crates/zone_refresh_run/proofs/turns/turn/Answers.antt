use Rattle.zone_refresh_run.proofs.Turning.{turned}
use Rattle.zone_refresh_run.proofs.turns.turn.Goals as goal

pub returns : goal.returns
returns g c =
    turned g.W.World.does c.args.zones.now c.visit_all.new.zones c.wake.result c.args.world.now c.sleep_until.new.self c.visit_all.new.world c.wake.ensures c.sleep_until.ensures c.visit_all.ensures
