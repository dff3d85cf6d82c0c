use Rattle.std.proofs.Common.{◌-◌, None, get_or, set, sym, ◌∙◌, ap, subst, arith, min}
use Rattle.client_request.specs.Numbered.{entry_at}
use Rattle.client_stream.specs.IdTable.{held_from}
use Rattle.client_stream.proofs.IdTable.{IsKept, kept_free, view_freed, entry_is, some_held, none_now}
use Rattle.client_stream.proofs.queries.Queries.try_remove.Goals as goal

pub returns-in_err-item-clause-item : goal.returns-in_err-item-clause-item
returns-in_err-item-clause-item g c =
    c.from_residual.ensures ∙ c.in_err-item.ensures.item ∙ ap (λ id. get_or c.self.inside.slots.items id None) c.from-id.ensures ∙ entry_is c.args.id c.self.inside.slots.items c.args.self.now c.self.view_is

pub returns-in_err-item-clause-removed : goal.returns-in_err-item-clause-removed
returns-in_err-item-clause-removed g c =
    let taken = c.take_slot.ensures.taken ∙ ap (λ id. set c.self.inside.slots.items id None) c.from-id.ensures in
    view_freed c.args.id c.self.inside.slots.items c.take_slot.new.slots.items c.args.self.now c.self.view_is taken

pub overflow_sub-self : goal.overflow_sub-self
overflow_sub-self g c =
    let some = some_held c.from-id.result c.in_ok-item.item c.self.inside.slots.items (sym c.in_ok-item.ensures.item) in
    let a = some.0 in
    let count = c.self.invariant.0 in
    omega arith

pub invariant_of-self-2 : goal.invariant_of-self-2
invariant_of-self-2 g c =
    let s = c.self.inside.slots.items in
    let kept = kept_free c.self.inside.held c.self.inside.full_below c.from-id.result c.in_ok-item.item s c.self.invariant (sym c.in_ok-item.ensures.item) in
    subst (λ m. IsKept (c.self.inside.held - 1) m c.take_slot.new.slots.items) (sym c.min-self-inside.ensures)
    (subst (λ s. IsKept (c.self.inside.held - 1) (min c.self.inside.full_below c.from-id.result) s) (sym c.take_slot.ensures.taken) kept)

pub returns-clause-item : goal.returns-clause-item
returns-clause-item g c =
    c.in_ok-item.ensures.item ∙ ap (λ id. get_or c.self.inside.slots.items id None) c.from-id.ensures ∙ entry_is c.args.id c.self.inside.slots.items c.args.self.now c.self.view_is

pub returns-clause-removed : goal.returns-clause-removed
returns-clause-removed g c =
    let taken = c.take_slot.ensures.taken ∙ ap (λ id. set c.self.inside.slots.items id None) c.from-id.ensures in
    view_freed c.args.id c.self.inside.slots.items c.take_slot.new.slots.items c.args.self.now c.self.view_is taken

pub returns-clause-free : goal.returns-clause-free
returns-clause-free g c =
    let taken = c.take_slot.ensures.taken ∙ ap (λ id. set c.self.inside.slots.items id None) c.from-id.ensures in
    ap (λ s. entry_at c.args.id (held_from 0 s)) taken ∙ none_now c.args.id c.self.inside.slots.items

pub returns-clause-room : goal.returns-clause-room
returns-clause-room g c =
    let kept = invariant_of-self-2 g c in
    let some = some_held c.from-id.result c.in_ok-item.item c.self.inside.slots.items (sym c.in_ok-item.ensures.item) in
    let a = some.0 in
    let count = c.self.invariant.0 in
    let limit = c.self.invariant.2 in
    let b = kept.0 in
    omega arith
