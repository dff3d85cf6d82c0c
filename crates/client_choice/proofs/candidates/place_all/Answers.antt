use Rattle.std.proofs.Common.{rules, subst}
use Rattle.std.proofs.lemmas.Fn.{always_returns_same}
use Rattle.std.specs.List.Sorted.{IsStableBy}
use Rattle.client_choice.specs.Candidates.{comes_before}
use Rattle.client_choice.proofs.Placing.{sorted_is_placed, start_order}
use Rattle.client_choice.proofs.candidates.place_all.Goals as goal

pub returns : goal.returns
returns c =
    let earlier = comes_before c.args.bound in
    let order = start_order c.args.bound in
    let stable = c.sort_by.ensures.stable earlier order (always_returns_same _ _ _ (λ a r next called. search rules)) in
    sorted_is_placed c.args.bound c.args.candidates.now c.sort_by.new.self.items
    (c.in_ok-sort_by.ensures.sorted earlier order (always_returns_same _ _ _ (λ a r next called. search rules)))
    (subst (λ all. IsStableBy earlier all c.sort_by.new.self.items) c.in_ok-list.ensures.items stable)
