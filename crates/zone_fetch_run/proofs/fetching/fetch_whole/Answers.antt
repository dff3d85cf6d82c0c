use Rattle.std.proofs.Common.{refl}
use Rattle.zone_fetch_run.specs.Fetching.{comes, is_missed}
use Rattle.zone_fetch_run.proofs.fetching.fetch_whole.Goals as goal

pub returns-in-Ok : goal.returns-in-Ok
returns-in-Ok g c = comes c.serial_of.result _ c.in-Ok.ensures.fetched c.serial_of.ensures c.judged_by.ensures

pub returns-in-Err : goal.returns-in-Err
returns-in-Err g c = is_missed c.in-Err.fault c.in-Err.ensures.missed refl
