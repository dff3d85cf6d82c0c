use Rattle.zone_fetch_run.proofs.Telling.{same_three, some_told}
use Rattle.zone_fetch_run.proofs.stop.tell.Goals as goal

pub returns-clause-some : goal.returns-clause-some
returns-clause-some g c = some_told c.end_by.result c.status_of-status.result c.end_by.ensures.status c.status_of-status.ensures.some

pub returns-clause-unread : goal.returns-clause-unread
returns-clause-unread g c e = c.status_of-status.ensures.unread (same_three c.end_by.result c.status_of-status.result c.end_by.ensures.status e)
