use Rattle.resolv_conf.specs.Server.{with_timeout}
use Rattle.resolv_conf.proofs.Changes.{changed}
use Rattle.resolv_conf.proofs.server.with_request_timeout.Goals as goal

pub loop-server-preserved : goal.loop-server-preserved
loop-server-preserved c =
    changed (with_timeout c.args.timeout) _ c.loop-server.server-items c.loop-server.server-index c.server-item.result c.loop-server-test.true c.loop-server.invariant
