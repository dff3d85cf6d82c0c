-- A word was drawn for each item.
use Rattle.std.proofs.Common.{ℕ, ap, length, ◌∙◌}
use Rattle.std.proofs.lemmas.List.Sorted.{length_permutation}
use Rattle.resolv_lookup.specs.Order.{behind}
use Rattle.resolv_lookup.proofs.srv_order.order.Goals as goal

pub returns-clause-drawn : goal.returns-clause-drawn
returns-clause-drawn g c =
    c.draw.ensures.words
    ∙ ap (λ (n : ℕ). behind n (g.W.Words.stream c.args.words.now)) (ap length c.deref_mut.ensures.value ∙ length_permutation _ _ c.in_ok-sort.ensures.sorted.same)
