use Rattle.std.proofs.Common.{refl}
use Rattle.zone_refresh_run.specs.Fetching.{fetches, starves}
use Rattle.zone_refresh_run.proofs.fetching.fetch_once.Goals as goal

pub returns-in-Ok : goal.returns-in-Ok
returns-in-Ok g c = fetches c.in-Ok.command c.in-Ok.ensures c.fetch.ensures

pub returns-in-Err : goal.returns-in-Err
returns-in-Err g c = starves refl refl
