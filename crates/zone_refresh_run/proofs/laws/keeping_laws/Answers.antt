use Rattle.zone_refresh_run.proofs.Promises.{promises}
use Rattle.zone_refresh_run.proofs.laws.keeping_laws.Goals as goal

pub returns : goal.returns
returns c = promises
