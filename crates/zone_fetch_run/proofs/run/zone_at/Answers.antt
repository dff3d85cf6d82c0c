use Rattle.zone_fetch_run.proofs.Asked.{is_filed, is_flawed}
use Rattle.zone_fetch_run.proofs.run.zone_at.Goals as goal

pub returns-in-Ok-clause-zone : goal.returns-in-Ok-clause-zone
returns-in-Ok-clause-zone g c = is_filed _ _ _ _ _ _ c.in_ok-octets.ensures.octets c.in_ok-apex.ensures c.as_slice.ensures.value c.in-Ok.zone c.in-Ok.ensures.zone

pub returns-in-Err-NoZone-clause-stopped : goal.returns-in-Err-NoZone-clause-stopped
returns-in-Err-NoZone-clause-stopped g c =
    is_flawed _ _ _ _ _ _ c.in_ok-octets.ensures.octets c.in_ok-apex.ensures c.as_slice.ensures.value c.in-Err-NoZone.flaw (rw c.in-Err-NoZone.field-0-is at c.in-Err-NoZone.ensures.flaw)
