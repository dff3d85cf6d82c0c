use Rattle.std.proofs.Common.{◌-◌, ◌∙◌, ap, sym, subst, arith, Some, None}
use Rattle.number_table.specs.Entries.{entry_at, frees}
use Rattle.number_table.specs.Slots.{AreEmptyBefore, AreSlots}
use Rattle.number_table.proofs.Absent.{frees_absent, if_none}
use Rattle.number_table.proofs.SlotTable.{entry_in_gap, free_in_gap}
use Rattle.number_table.proofs.Written.{here, gap, written_entry, written_fewer, emptied, written_frees}
use Rattle.number_table.proofs.table.NumberTable.remove.Goals as goal

pub returns-in_default-clause-value : goal.returns-in_default-clause-value
returns-in_default-clause-value g c =
    sym (entry_in_gap 0 c.args.key _ _ c.self.invariant.rising (gap _ _ _ _ c.as_slice.ensures.value c.in_default.ensures.gap)) ∙ ap (entry_at c.args.key) c.self.view_is

pub returns-in_default-clause-entries : goal.returns-in_default-clause-entries
returns-in_default-clause-entries g c =
    sym c.self.view_is ∙ sym (free_in_gap 0 c.args.key _ _ c.self.invariant.rising (gap _ _ _ _ c.as_slice.ensures.value c.in_default.ensures.gap)) ∙ ap (frees c.args.key) c.self.view_is

pub invariant_of-self : goal.invariant_of-self
invariant_of-self g c = emptied _ _ c.args.key c.in-Ok.at _ _ _ None c.self.invariant (here _ _ _ _ c.as_slice.ensures.value c.in-Ok.ensures.found) c.in_err-value.ensures.old c.in_err-value.ensures.slots (omega arith)

pub returns-in_err-value-clause-value : goal.returns-in_err-value-clause-value
returns-in_err-value-clause-value g c =
    c.from_residual.ensures
    ∙ written_entry _ _ c.args.key c.in-Ok.at _ _ None None c.self.invariant (here _ _ _ _ c.as_slice.ensures.value c.in-Ok.ensures.found) c.in_err-value.ensures.old c.in_err-value.ensures.slots
    ∙ ap (entry_at c.args.key) c.self.view_is

pub returns-in_err-value-clause-entries : goal.returns-in_err-value-clause-entries
returns-in_err-value-clause-entries g c =
    written_frees _ _ c.args.key c.in-Ok.at _ _ c.self.invariant (here _ _ _ _ c.as_slice.ensures.value c.in-Ok.ensures.found) c.in_err-value.ensures.slots ∙ ap (frees c.args.key) c.self.view_is

pub overflow_sub-self : goal.overflow_sub-self
overflow_sub-self g c = let one = written_fewer _ _ c.args.key c.in-Ok.at _ _ c.in_ok-value.value c.self.invariant (here _ _ _ _ c.as_slice.ensures.value c.in-Ok.ensures.found) c.in_ok-value.ensures.old c.in_ok-value.ensures.slots in omega arith

pub invariant_of-self-2 : goal.invariant_of-self-2
invariant_of-self-2 g c =
    let one = written_fewer _ _ c.args.key c.in-Ok.at _ _ c.in_ok-value.value c.self.invariant (here _ _ _ _ c.as_slice.ensures.value c.in-Ok.ensures.found) c.in_ok-value.ensures.old c.in_ok-value.ensures.slots in
    let left : AreSlots (c.self.inside.len - 1) c.self.inside.front c.replace_at.new.slots.items =
    emptied _ _ c.args.key c.in-Ok.at _ _ _ (Some c.in_ok-value.value) c.self.invariant (here _ _ _ _ c.as_slice.ensures.value c.in-Ok.ensures.found) c.in_ok-value.ensures.old c.in_ok-value.ensures.slots (omega arith) in
    record {
      rising = left.rising;
      counted = left.counted;
      passed = subst (AreEmptyBefore c.first_place-self-inside.result) c.as_slice-2.ensures.value (c.first_place-self-inside.ensures.passed (subst (AreEmptyBefore c.self.inside.front) (sym c.as_slice-2.ensures.value) left.passed));
    }

pub returns-in_err-value-clause-none : goal.returns-in_err-value-clause-none
returns-in_err-value-clause-none g c =
    let none = sym (written_entry _ _ c.args.key c.in-Ok.at _ _ None None c.self.invariant (here _ _ _ _ c.as_slice.ensures.value c.in-Ok.ensures.found) c.in_err-value.ensures.old c.in_err-value.ensures.slots ∙ ap (entry_at c.args.key) c.self.view_is) in
    let left = written_frees _ _ c.args.key c.in-Ok.at _ _ c.self.invariant (here _ _ _ _ c.as_slice.ensures.value c.in-Ok.ensures.found) c.in_err-value.ensures.slots ∙ ap (frees c.args.key) c.self.view_is in
    let same = left ∙ frees_absent c.args.key c.args.self.now none in
    if_none c.from_residual.result same

pub returns-clause-value : goal.returns-clause-value
returns-clause-value g c =
    written_entry _ _ c.args.key c.in-Ok.at _ _ None (Some c.in_ok-value.value) c.self.invariant (here _ _ _ _ c.as_slice.ensures.value c.in-Ok.ensures.found) c.in_ok-value.ensures.old c.in_ok-value.ensures.slots
    ∙ ap (entry_at c.args.key) c.self.view_is

pub returns-clause-entries : goal.returns-clause-entries
returns-clause-entries g c =
    c.compact.ensures
    ∙ written_frees _ _ c.args.key c.in-Ok.at _ _ c.self.invariant (here _ _ _ _ c.as_slice.ensures.value c.in-Ok.ensures.found) c.in_ok-value.ensures.slots
    ∙ ap (frees c.args.key) c.self.view_is
