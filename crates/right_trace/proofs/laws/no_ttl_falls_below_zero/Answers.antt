use Rattle.right_trace.proofs.Lessening.{lessened_in_time}
use Rattle.right_trace.proofs.laws.no_ttl_falls_below_zero.Goals as goal

pub returns : goal.returns
returns c s q r m x age y valid is = lessened_in_time s q r x age y valid.in_time is
