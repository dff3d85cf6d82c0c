use Rattle.zone_refresh.proofs.Promises.{promises}
use Rattle.zone_refresh.proofs.laws.refresh_laws.Goals as goal

pub returns : goal.returns
returns c = promises
