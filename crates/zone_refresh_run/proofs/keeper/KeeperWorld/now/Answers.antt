use Rattle.std.proofs.Common.{refl}
use Rattle.zone_refresh_run.proofs.keeper.KeeperWorld.now.Goals as goal

pub returns : goal.returns
returns g c = (c.now.ensures, (refl, refl, refl))
