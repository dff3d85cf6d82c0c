use Rattle.std.proofs.Common.{◌∙◌, sym}
use Rattle.number_table.proofs.SlotTable.{empty_more}
use Rattle.number_table.proofs.slots.first_place.Goals as goal

pub loop-place-preserved : goal.loop-place-preserved
loop-place-preserved g c = λ before. empty_more c.loop-place.place c.args.slots.now (sym c.is_empty_at.ensures ∙ c.loop-place-test.true) (c.loop-place.invariant before)
