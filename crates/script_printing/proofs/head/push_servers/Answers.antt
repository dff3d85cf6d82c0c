use Rattle.script_printing.proofs.Telling.{one_server_more}
use Rattle.script_printing.proofs.head.push_servers.Goals as goal

pub loop-server-preserved : goal.loop-server-preserved
loop-server-preserved c =
    one_server_more c.args.servers.now c.loop-server.server-index c.server-item.result c.args.text.now.items c.loop-server.text.items c.push_server.new.text.items c.loop-server-test.true c.server-item.is
    c.loop-server.invariant c.in_ok-push_server.ensures
