use Rattle.std.proofs.lemmas.Result.{on_ok_weaker}
use Rattle.script_printing.proofs.Telling.{limits_text}
use Rattle.script_printing.proofs.settings.push_limits.Goals as goal

pub returns : goal.returns
returns c =
    on_ok_weaker c.push_time-4.result
    (limits_text c.args.cache.now c.args.text.now.items c.push_time.new.text.items c.push_time-2.new.text.items c.push_time-3.new.text.items c.push_time-4.new.text.items
    c.max_nxdomain_validity.result c.max_nodata_validity.result c.max_delegation_validity.result c.stale_for.result
    c.max_nxdomain_validity.ensures c.max_nodata_validity.ensures c.max_delegation_validity.ensures c.stale_for.ensures
    c.in_ok-push_time.ensures c.in_ok-push_time-2.ensures c.in_ok-push_time-3.ensures)
    c.push_time-4.ensures
