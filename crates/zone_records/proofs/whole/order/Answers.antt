use Rattle.zone_records.proofs.Ordered.{is_ordered, same_records}
use Rattle.zone_records.proofs.whole.order.Goals as goal

pub returns-clause-same : goal.returns-clause-same
returns-clause-same c = same_records _ _ _ c.sort_unstable.ensures.permutation c.dedup.ensures.filtered

pub returns-clause-sorted : goal.returns-clause-sorted
returns-clause-sorted c = is_ordered _ _ c.sort_unstable.ensures.sorted c.dedup.ensures.filtered
