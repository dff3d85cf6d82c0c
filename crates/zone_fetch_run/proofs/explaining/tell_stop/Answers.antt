use Rattle.zone_fetch_run.proofs.Telling.{same_three}
use Rattle.zone_fetch_run.proofs.explaining.tell_stop.Goals as goal

pub returns-in-Ok-clause-unread : goal.returns-in-Ok-clause-unread
returns-in-Ok-clause-unread g c e = c.status_of-status.ensures.unread (same_three c.end_by.result c.status_of-status.result c.end_by.ensures.status e)
