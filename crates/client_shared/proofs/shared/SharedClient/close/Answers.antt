use Rattle.std.proofs.Common.{rules, ◌≡◌, ◌<◌, ℕ, List, [], ◌∷◌, ◌++◌, length, arith, sym, ap, subst, ◌∙◌}
use Rattle.std.specs.Prelude.{All}
use Rattle.client_shared.specs.declared.entry.Entry.{Entry}
use Rattle.client_shared.specs.declared.entry.Item.{Item}
use Rattle.client_shared.specs.History.{Passed, Shared, IsLegal, IsSettled, history}
use Rattle.client_shared.proofs.Histories.{all_more, all_none, all_closed, journal_callers, legal_callers}
use Rattle.client_shared.proofs.shared.SharedClient.close.Goals as goal

pub loop-pass-preserved : goal.loop-pass-preserved
loop-pass-preserved g c =
    let desk : List Item = c.into_inner-desk.result in
    let i = c.loop-pass.invariant in
    let split : c.loop-pass.passes.items ≡ c.pop.new.self.items ++ c.in-Some.pass ∷ [] = c.in-Some.ensures.items in
    let settled : IsSettled desk c.in-Some.pass = subst (λ (h : List Item). IsSettled h c.in-Some.pass) i.0 c.settle.ensures.settled in
    (c.settle.ensures.same ∙ i.0, λ all. i.1 (subst (All (IsSettled desk)) (sym split) (all_more (IsSettled desk) c.pop.new.self.items c.in-Some.pass all settled)))

pub returns-clause-passes : goal.returns-clause-passes
returns-clause-passes g c =
    let desk : List Item = c.into_inner-desk.result in
    let lost = c.into_parts-entries.result.lost in
    let i = c.loop-pass.invariant in
    let none : length c.loop-pass.passes.items ≡ 0 = sym c.loop-pass.passes.ok.0 ∙ c.in_default.ensures.cases.0 in
    let same : history c.from_vec.result lost ≡ desk = ap (λ (es : List Entry). history es lost) c.from_vec.ensures ∙ (c.into_parts-entries.ensures.history ∙ i.0) in
    all_closed c.from_vec.result lost c.args.passes.items (subst (λ (h : List Item). All (IsSettled h) c.args.passes.items) (sym same) (i.1 (all_none (IsSettled desk) c.loop-pass.passes.items none)))

pub returns-clause-callers : goal.returns-clause-callers
returns-clause-callers g c =
    let lost = c.into_parts-entries.result.lost in
    let same : history c.from_vec.result lost ≡ history c.into_parts-entries.result.entries.items lost = ap (λ (es : List Entry). history es lost) c.from_vec.ensures in
    let legal : IsLegal g.L.ClientKey.opening (history c.from_vec.result lost) = subst (IsLegal g.L.ClientKey.opening) (sym (same ∙ c.into_parts-entries.ensures.history)) c.into_parts-entries.ensures.legal in
    subst (λ (n : ℕ). All (λ (e : Entry). e.caller < n) c.from_vec.result) (sym c.self.invariant.1 ∙ ap (λ (s : Shared). s.callers) c.self.view_is) (journal_callers g.L.ClientKey.opening.callers c.from_vec.result lost (legal_callers g.L.ClientKey.opening (history c.from_vec.result lost) legal))
