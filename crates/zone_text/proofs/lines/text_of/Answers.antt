use Rattle.std.proofs.Common.{sym}
use Rattle.zone_text.proofs.Written.{text_taken}
use Rattle.zone_text.proofs.lines.text_of.Goals as goal

pub loop-item-preserved : goal.loop-item-preserved
loop-item-preserved c =
    text_taken c.args.records.now c.loop-item.item-index c.item-item.result c.loop-item.text.items c.push_line.new.text.items c.loop-item-test.true (sym c.item-item.is) c.loop-item.invariant c.in_ok-push_line.ensures
