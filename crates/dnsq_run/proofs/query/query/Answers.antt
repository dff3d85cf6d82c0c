use Rattle.dnsq_run.proofs.QueryEnds.{configured}
use Rattle.dnsq_run.proofs.query.query.Goals as goal

pub returns-in-Ok-clause-asked : goal.returns-in-Ok-clause-asked
returns-in-Ok-clause-asked g c = record {
  conf = c.conf_at-conf.result;
  is_conf = record { final = c.in_ok-read.read; is_final = configured _ _ c.in_ok-read.read c.in_ok-read.ensures.done; is = c.conf_at-conf.ensures };
  replied = c.in-Ok.ensures.asked;
}
