use Rattle.std.proofs.Common.{◌∙◌, ap, sym}
use Rattle.number_table.specs.Entries.{entry_at}
use Rattle.number_table.specs.declared.slots.Slot.{Slot}
use Rattle.number_table.proofs.SlotTable.{entry_here, entry_in_gap}
use Rattle.number_table.proofs.Written.{here, gap}
use Rattle.number_table.proofs.table.NumberTable.get.Goals as goal

pub returns-in-Ok : goal.returns-in-Ok
returns-in-Ok g c =
    let found = here c.args.key c.in-Ok.at _ _ c.as_slice.ensures.value c.in-Ok.ensures.found in
    let d = c.index.result.now in
    c.as_ref.ensures.value
    ∙ ap (λ (s : Slot g.row.V.Denot). s.value) c.index.ensures
    ∙ sym (entry_here 0 c.args.key _ c.in-Ok.at d c.self.invariant.rising found.within (found.same d))
    ∙ ap (entry_at c.args.key) c.self.view_is

pub returns-in-Err : goal.returns-in-Err
returns-in-Err g c =
    sym (entry_in_gap 0 c.args.key _ _ c.self.invariant.rising (gap _ _ _ _ c.as_slice.ensures.value c.in-Err.ensures.gap)) ∙ ap (entry_at c.args.key) c.self.view_is
