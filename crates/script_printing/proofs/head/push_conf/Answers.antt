use Rattle.std.proofs.lemmas.Result.{on_ok_weaker}
use Rattle.script_printing.specs.Texts.{option_lines}
use Rattle.script_printing.proofs.Telling.{servers_and}
use Rattle.script_printing.proofs.head.push_conf.Goals as goal

pub returns : goal.returns
returns c =
    on_ok_weaker c.push_options.result
    (servers_and c.args.text.now.items c.push_servers.new.text.items c.push_options.new.text.items c.as_slice.result.now c.args.conf.now.servers (option_lines c.args.conf.now.options) c.as_slice.ensures c.in_ok-push_servers.ensures)
    c.push_options.ensures
