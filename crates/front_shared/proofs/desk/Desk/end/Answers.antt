use Rattle.std.proofs.Common.{◌≡◌, ℕ, [], ◌∷◌, ◌++◌, sym, ap, subst, ◌∙◌}
use Rattle.front_shared.specs.History.{IsKeeping, Passed}
use Rattle.front_shared.specs.declared.entry.Item.TheVariants.{Ended}
use Rattle.front_shared.proofs.Counting.{has_ended, may_end, sees_end}
use Rattle.front_shared.proofs.desk.Desk.end.Goals as goal

pub end-requires-clause-legal : goal.end-requires-clause-legal
end-requires-clause-legal g c =
    let d = c.self.inside in
    may_end g.L.ForwarderKey.table g.L.ForwarderKey.opening d.forwarder (g.W.Words.stream d.words) d.waiting d.count d.ended d.seat c.args.pass.now.number c.self.invariant (sym c.is_some.ensures ∙ c.if-is_some.false)

pub invariant_of-self : goal.invariant_of-self
invariant_of-self g c =
    let d = c.self.inside in
    let number : c.args.pass.now.number ≡ c.pass.inside.number = sym (ap (λ (p : Passed). p.number) c.pass.view_is) in
    has_ended g.L.ForwarderKey.table g.L.ForwarderKey.opening d.forwarder (g.W.Words.stream d.words) d.waiting d.count d.ended d.seat c.end.new.keeper c.pass.inside.number c.self.invariant (sym c.is_some.ensures ∙ c.if-is_some.false)
    (subst (λ (n : ℕ). IsKeeping g.L.ForwarderKey.table (d.seat.me.0.seen ++ Ended n ∷ []) c.end.new.keeper) number c.end.ensures.keeper)

pub returns-clause-behind : goal.returns-clause-behind
returns-clause-behind g c =
    let d = c.self.inside in
    sees_end g.L.ForwarderKey.table g.L.ForwarderKey.opening d.forwarder (g.W.Words.stream d.words) d.waiting d.count d.ended d.seat c.args.pass.now c.end.new.pass c.self.invariant (sym c.is_some.ensures ∙ c.if-is_some.false)
    c.end.ensures.pass
