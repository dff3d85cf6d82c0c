use Rattle.command_parts.specs.Conf.{at_port}
use Rattle.resolv_conf.proofs.Changes.{changed}
use Rattle.command_parts.proofs.conf.at_port.Goals as goal

pub loop-server-preserved : goal.loop-server-preserved
loop-server-preserved c =
    changed (at_port c.args.port) _ c.loop-server.server-items c.loop-server.server-index c.server-item.result c.loop-server-test.true c.loop-server.invariant
