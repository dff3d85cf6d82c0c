use Rattle.dnsq_run.proofs.Refusals.{told_refusal}
use Rattle.dnsq_run.proofs.replay.replay.Goals as goal

pub returns-in-Err-clause-refused : goal.returns-in-Err-clause-refused
returns-in-Err-clause-refused g c =
    told_refusal _ _ _ c.in-Err.ending c.in_ok-text.ensures.whole c.in_ok-text.ensures.fits (rw c.deref.ensures.value at c.in-Err.ensures.refused)
