-- The closure gives the priority and the weight of each item.
use Rattle.std.proofs.Common.{ℕ, rules}
use Rattle.std.proofs.lemmas.List.Sorted.{answers_always}
use Rattle.resolv_lookup.specs.Items.{Item}
use Rattle.resolv_lookup.proofs.srv_order.sort.Goals as goal

-- what the items are sorted by
abbrev rank : Item → ℕ × ℕ
rank item = (item.srv.priority, item.srv.weight)

pub returns-clause-sorted : goal.returns-clause-sorted
returns-clause-sorted c = record {
  same = c.in_ok-sort_by_key.ensures.permutation;
  rises = c.in_ok-sort_by_key.ensures.sorted rank (answers_always _ _ _ (λ f a r f' called. search rules));
  stable = c.in_ok-sort_by_key.ensures.stable rank (answers_always _ _ _ (λ f a r f' called. search rules));
}
