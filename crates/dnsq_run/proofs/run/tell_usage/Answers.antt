use Rattle.command_parts.proofs.Delivery.{begun_line, said_line}
use Rattle.dnsq_run.proofs.run.tell_usage.Goals as goal

pub returns-in-Ok-clause-said : goal.returns-in-Ok-clause-said
returns-in-Ok-clause-said g c = λ is_two. said_line _ _ _ _ _ _ c.in-Ok.ensures.said c.as_bytes.ensures.value

pub returns-in-Err-clause-begun : goal.returns-in-Err-clause-begun
returns-in-Err-clause-begun g c = begun_line _ _ _ _ c.say.ensures.begun c.as_bytes.ensures.value
