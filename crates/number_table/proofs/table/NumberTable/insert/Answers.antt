use Rattle.std.proofs.Common.{◌∙◌, ap, sym, arith, Some}
use Rattle.number_table.specs.Entries.{entry_at, puts}
use Rattle.number_table.proofs.SlotTable.{entry_in_gap}
use Rattle.number_table.proofs.Written.{here, gap, added_puts, count_none, count_some, no_more, written_entry, written, written_puts, added}
use Rattle.number_table.proofs.table.NumberTable.insert.Goals as goal
use Rattle.number_table.proofs.table.NumberTable.insert.Goals.{then-is_none, else-is_none}

pub overflow_add-self : goal.overflow_add-self
overflow_add-self g c =
    let fewer = no_more _ _ _ c.self.invariant in
    let is = c.self.inside.slots.ok in
    let small = c.self.inside.slots.small in
    omega arith

pub overflow_add-self-in-Err : goal.overflow_add-self-in-Err
overflow_add-self-in-Err g c =
    let fewer = no_more _ _ _ c.self.invariant in
    let is = c.self.inside.slots.ok in
    let small = c.self.inside.slots.small in
    omega arith

pub invariant_of-self : goal.invariant_of-self
invariant_of-self g c =
    let least = c.min-self-inside.ensures in
    let new = count_none c.replace_at-old.result c.if-is_none.ensures in
    written _ _ c.args.key c.in-Ok.at _ _ (Some c.args.value) c.replace_at-old.result c.self.invariant (here _ _ _ _ c.as_slice.ensures.value c.in-Ok.ensures.found) c.replace_at-old.ensures.old c.replace_at-old.ensures.slots _ _ (omega arith) (omega arith) (omega arith)

pub invariant_of-self-else-is_none : goal.invariant_of-self-else-is_none
invariant_of-self-else-is_none g c =
    let least = c.min-self-inside.ensures in
    let more = count_some c.replace_at-old.result c.if-is_none.ensures in
    written _ _ c.args.key c.in-Ok.at _ _ (Some c.args.value) c.replace_at-old.result c.self.invariant (here _ _ _ _ c.as_slice.ensures.value c.in-Ok.ensures.found) c.replace_at-old.ensures.old c.replace_at-old.ensures.slots _ _ (omega arith) (omega arith) (omega arith)

pub returns-after-is_none-clause-old : goal.returns-after-is_none-clause-old
returns-after-is_none-clause-old g c =
    written_entry _ _ c.args.key c.in-Ok.at _ _ (Some c.args.value) c.replace_at-old.result c.self.invariant (here _ _ _ _ c.as_slice.ensures.value c.in-Ok.ensures.found) c.replace_at-old.ensures.old c.replace_at-old.ensures.slots
    ∙ ap (entry_at c.args.key) c.self.view_is

pub returns-after-is_none-clause-entries : goal.returns-after-is_none-clause-entries
returns-after-is_none-clause-entries g c =
    let put = written_puts _ _ c.args.key c.in-Ok.at _ _ c.args.value c.self.invariant (here _ _ _ _ c.as_slice.ensures.value c.in-Ok.ensures.found) c.replace_at-old.ensures.slots ∙ ap (puts c.args.key c.args.value) c.self.view_is in
    elim c.if-is_none.branch [ then-is_none w ↦ w.self-is ∙ put | else-is_none w ↦ w.self-is ∙ put ]

pub returns-in-Err-insert_at-clause-absent : goal.returns-in-Err-insert_at-clause-absent
returns-in-Err-insert_at-clause-absent g c =
    ap (entry_at c.args.key) (sym c.self.view_is) ∙ entry_in_gap 0 c.args.key _ _ c.self.invariant.rising (gap _ _ _ _ c.as_slice.ensures.value c.in-Err.ensures.gap)

pub invariant_of-self-in-Err : goal.invariant_of-self-in-Err
invariant_of-self-in-Err g c =
    let least = c.min-self-inside-in-Err.ensures in
    added _ _ c.args.key c.in-Err.at _ _ _ c.args.value c.self.invariant (gap _ _ _ _ c.as_slice.ensures.value c.in-Err.ensures.gap) c.in_default.ensures.items (omega arith) (omega arith)

pub returns-in_default-clause-old : goal.returns-in_default-clause-old
returns-in_default-clause-old g c =
    sym (entry_in_gap 0 c.args.key _ _ c.self.invariant.rising (gap _ _ _ _ c.as_slice.ensures.value c.in-Err.ensures.gap)) ∙ ap (entry_at c.args.key) c.self.view_is

pub returns-in_default-clause-entries : goal.returns-in_default-clause-entries
returns-in_default-clause-entries g c =
    added_puts _ _ c.args.key c.in-Err.at _ _ c.args.value c.self.invariant (gap _ _ _ _ c.as_slice.ensures.value c.in-Err.ensures.gap) c.in_default.ensures.items ∙ ap (puts c.args.key c.args.value) c.self.view_is
