use Rattle.proof_right.proofs.worked.Hits.{not_missed}
use Rattle.proof_right.proofs.refusals.missed_hits_are_refused.Goals as goal

pub returns : goal.returns
returns c = not_missed
