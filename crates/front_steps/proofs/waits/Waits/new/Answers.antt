use Rattle.front_steps.proofs.Counting.{none_counts}
use Rattle.front_steps.proofs.waits.Waits.new.Goals as goal

pub invariant_of-result : goal.invariant_of-result
invariant_of-result c = none_counts c.new.result c.new.ensures
