use Rattle.std.proofs.Common.{arith}
use Rattle.dns_base.proofs.Named.{name_ends}
use Rattle.dns_base.proofs.named_data.second_at.Goals as goal

pub returns-clause-order : goal.returns-clause-order
returns-clause-order c = let ends = name_ends _ _ _ c.in_ok-name.ensures.value in omega arith
