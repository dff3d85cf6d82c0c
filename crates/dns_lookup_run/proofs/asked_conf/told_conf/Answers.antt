use Rattle.std.proofs.Common.{refl}
use Rattle.dns_lookup_run.proofs.asked_conf.told_conf.Goals as goal

pub returns-in-Ok-tell_notes-clause-asked : goal.returns-in-Ok-tell_notes-clause-asked
returns-in-Ok-tell_notes-clause-asked g c = record { found = c.in-Ok.found; is_found = c.in-Ok.ensures.conf; conf_is = refl }
