use Rattle.zone_fetch_run.proofs.Coming.{serial_there}
use Rattle.zone_fetch_run.proofs.fetching.fetch_by.Goals as goal

pub returns-clause-serial : goal.returns-clause-serial
returns-clause-serial g c = serial_there _ _ _ _ _ _ _ c.fetch_told.result c.fetch_told.ensures.fetched
