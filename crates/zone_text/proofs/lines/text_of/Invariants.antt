-- the text has the lines of the records before the index
use Rattle.std.proofs.Common.{take}
use Rattle.zone_text.specs.Lines.{IsText}
use Rattle.zone_text.proofs.lines.text_of.Given as goal

abbrev pub invariant-loop-item : goal.invariant-loop-item
invariant-loop-item l = IsText (take l.item-index l.records) l.text.items
