use Rattle.proof_forwarding.proofs.Forging.{forged_answers_are_few as lemma}
use Rattle.proof_forwarding.proofs.laws.forged_answers_are_few.Goals as goal

pub returns : goal.returns
returns c = lemma
