use Rattle.proof_forwarding.proofs.Worked.{worked_serving as lemma}
use Rattle.proof_forwarding.proofs.laws.worked_serving.Goals as goal

pub returns : goal.returns
returns c = lemma
