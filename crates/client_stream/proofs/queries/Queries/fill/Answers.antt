use Rattle.std.proofs.Common.{◌≡◌, ◌+◌, length, sym, ◌∙◌, ap, subst, arith}
use Rattle.client_stream.specs.IdTable.{held_from, full_front, least_free}
use Rattle.client_stream.proofs.IdTable.{IsKept, kept_fill, view_set, least}
use Rattle.client_stream.proofs.queries.Queries.fill.Goals as goal

pub invariant_of-self : goal.invariant_of-self
invariant_of-self g c =
    let s = c.self.inside.slots.items in
    let is : c.args.id ≡ full_front s = c.requires.least ∙ sym (ap least_free c.self.view_is) ∙ least s in
    let mark : length s ≡ c.args.self.now.mark = ap (λ t. t.mark) c.self.view_is in
    let count : length (held_from 0 s) ≡ length c.args.self.now.held = ap (λ t. length t.held) c.self.view_is in
    let held = c.self.invariant.0 in
    subst (λ s. IsKept (c.self.inside.held + 1) (c.args.id + 1) s) (sym c.put_slot.ensures)
    (kept_fill c.self.inside.held c.self.inside.full_below c.args.id c.args.item s c.self.invariant is (omega arith) (omega arith))

pub returns : goal.returns
returns g c =
    let s = c.self.inside.slots.items in
    let mark : length s ≡ c.args.self.now.mark = ap (λ t. t.mark) c.self.view_is in
    view_set c.args.id c.args.item s c.put_slot.new.slots.items c.args.self.now c.self.view_is c.put_slot.ensures (omega arith)
