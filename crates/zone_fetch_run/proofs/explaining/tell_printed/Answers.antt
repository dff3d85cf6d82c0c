use Rattle.std.proofs.Common.{arith}
use Rattle.zone_fetch_run.proofs.Telling.{said_as}
use Rattle.zone_fetch_run.proofs.explaining.tell_printed.Goals as goal

pub returns-then-eq-clause-said : goal.returns-then-eq-clause-said
returns-then-eq-clause-said g c four = said_as _ _ _ _ _ _ c.as_bytes.ensures.value (c.end_by.ensures.said (λ six. omega arith))
