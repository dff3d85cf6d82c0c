-- the lines of the records before the index have been added
use Rattle.std.proofs.Common.{◌≡◌, take}
use Rattle.zone_text.specs.Numbers.{numbers_text}
use Rattle.zone_fetch_run.proofs.lines.numbers_text.Given as goal

abbrev pub invariant-loop-item : goal.invariant-loop-item
invariant-loop-item l = l.text.items ≡ numbers_text (take l.item-index l.records)
