use Rattle.zone_fetch_run.specs.Fetching.{changes, no_changes}
use Rattle.zone_fetch_run.proofs.fetching.fetch_changes.Goals as goal

pub returns-in-Ok : goal.returns-in-Ok
returns-in-Ok g c = changes c.serial_of.result c.in-Ok.misfits c.in-Ok.ensures.fetched c.serial_of.ensures c.course_of_changes.ensures

pub returns-in-Err : goal.returns-in-Err
returns-in-Err g c = no_changes c.in-Err.fault c.in-Err.ensures.missed c.course_of_fault.ensures
