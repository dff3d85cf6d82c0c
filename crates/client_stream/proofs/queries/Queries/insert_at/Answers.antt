use Rattle.std.proofs.Common.{◌≡◌, ◌+◌, Some, length, set, sym, ◌∙◌, ap, subst, arith}
use Rattle.client_stream.specs.IdTable.{held_from}
use Rattle.client_stream.proofs.IdTable.{IsKept, kept_set, view_set, entry_is}
use Rattle.client_stream.proofs.queries.Queries.insert_at.Goals as goal

pub invariant_of-self : goal.invariant_of-self
invariant_of-self g c =
    let s = c.self.inside.slots.items in
    let mark : length s ≡ c.args.self.now.mark = ap (λ t. t.mark) c.self.view_is in
    let count : length (held_from 0 s) ≡ length c.args.self.now.held = ap (λ t. length t.held) c.self.view_is in
    let held = c.self.invariant.0 in
    let set_there = c.put_slot.ensures ∙ ap (λ id. set s id (Some c.args.item)) c.from.ensures in
    subst (λ s. IsKept (c.self.inside.held + 1) c.self.inside.full_below s) (sym set_there)
    (kept_set c.self.inside.held c.self.inside.full_below c.args.id c.args.item s c.self.invariant (omega arith) (entry_is c.args.id s c.args.self.now c.self.view_is ∙ c.requires.free) (omega arith))

pub returns : goal.returns
returns g c =
    let s = c.self.inside.slots.items in
    let mark : length s ≡ c.args.self.now.mark = ap (λ t. t.mark) c.self.view_is in
    let set_there = c.put_slot.ensures ∙ ap (λ id. set s id (Some c.args.item)) c.from.ensures in
    view_set c.args.id c.args.item s c.put_slot.new.slots.items c.args.self.now c.self.view_is set_there (omega arith)
