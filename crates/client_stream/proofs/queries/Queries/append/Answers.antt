use Rattle.std.proofs.Common.{◌≡◌, ◌+◌, length, sym, ◌∙◌, ap, subst, arith}
use Rattle.client_request.specs.Numbered.{puts}
use Rattle.client_stream.specs.IdTable.{held_from}
use Rattle.client_stream.proofs.IdTable.{IsKept, kept_push, push_slot}
use Rattle.client_stream.proofs.queries.Queries.append.Goals as goal

pub invariant_of-self : goal.invariant_of-self
invariant_of-self g c =
    let s = c.self.inside.slots.items in
    let count : length (held_from 0 s) ≡ length c.args.self.now.held = ap (λ t. length t.held) c.self.view_is in
    let mark : length s ≡ c.args.self.now.mark = ap (λ t. t.mark) c.self.view_is in
    let kept = c.self.invariant.0 in
    subst (λ s. IsKept (c.self.inside.held + 1) c.self.inside.full_below s) (sym c.in-Ok.ensures.items)
    (kept_push c.self.inside.held c.self.inside.full_below c.args.item s c.self.invariant (omega arith) (omega arith))

pub returns-in-Ok-clause-held : goal.returns-in-Ok-clause-held
returns-in-Ok-clause-held g c =
    ap (held_from 0) c.in-Ok.ensures.items
    ∙ push_slot c.args.item c.self.inside.slots.items
    ∙ ap (λ t. puts t.mark c.args.item t.held) c.self.view_is
