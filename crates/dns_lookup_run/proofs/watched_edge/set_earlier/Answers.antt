use Rattle.dns_lookup_run.specs.Watched.{as_earlier}
use Rattle.resolv_conf.proofs.Changes.{changed}
use Rattle.dns_lookup_run.proofs.watched_edge.set_earlier.Goals as goal

pub loop-one-preserved : goal.loop-one-preserved
loop-one-preserved c = changed as_earlier _ c.loop-one.one-items c.loop-one.one-index _ c.loop-one-test.true c.loop-one.invariant
