use Rattle.std.proofs.lemmas.Result.{on_ok_weaker}
use Rattle.script_printing.specs.Texts.{kept_lines, transport_lines}
use Rattle.script_printing.proofs.Telling.{two_texts}
use Rattle.script_printing.proofs.settings.push_settings.Goals as goal

pub returns : goal.returns
returns c =
    on_ok_weaker c.push_transports.result
    (two_texts c.args.text.now.items c.push_kept.new.text.items c.push_transports.new.text.items (kept_lines c.args.choice c.args.cache.now) (transport_lines c.args.transports.now) c.in_ok-push_kept.ensures)
    c.push_transports.ensures
