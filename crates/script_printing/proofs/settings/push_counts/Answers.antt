use Rattle.std.proofs.Common.{◌∙◌}
use Rattle.std.proofs.lemmas.Result.{on_ok_weaker}
use Rattle.script_printing.proofs.Telling.{counts_text}
use Rattle.script_printing.proofs.settings.push_counts.Goals as goal

pub returns : goal.returns
returns c =
    on_ok_weaker c.push_number-3.result
    (counts_text c.args.d.now c.args.text.now.items c.push_number.new.text.items c.push_number-2.new.text.items c.push_number-3.new.text.items
    c.max_parallel-places.result c.from-retries.result c.recv_size-size.result
    c.max_parallel-places.ensures (c.from-retries.ensures ∙ c.max_retries.ensures) c.recv_size-size.ensures
    c.in_ok-push_number.ensures c.in_ok-push_number-2.ensures)
    c.push_number-3.ensures
