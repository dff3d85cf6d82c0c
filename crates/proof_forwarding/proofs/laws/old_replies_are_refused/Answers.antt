use Rattle.proof_forwarding.proofs.Aging.{old_refused as lemma}
use Rattle.proof_forwarding.proofs.laws.old_replies_are_refused.Goals as goal

pub returns : goal.returns
returns c = lemma
