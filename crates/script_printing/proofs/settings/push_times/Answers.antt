use Rattle.std.proofs.lemmas.Result.{on_ok_weaker}
use Rattle.script_printing.proofs.Telling.{times_text}
use Rattle.script_printing.proofs.settings.push_times.Goals as goal

pub returns : goal.returns
returns c =
    on_ok_weaker c.push_limits.result
    (times_text c.args.cache.now c.args.text.now.items c.push_time.new.text.items c.push_time-2.new.text.items c.push_time-3.new.text.items c.push_limits.new.text.items
    c.max_validity.result c.transport_failure_duration.result c.misc_error_duration.result
    c.max_validity.ensures c.transport_failure_duration.ensures c.misc_error_duration.ensures
    c.in_ok-push_time.ensures c.in_ok-push_time-2.ensures c.in_ok-push_time-3.ensures)
    c.push_limits.ensures
