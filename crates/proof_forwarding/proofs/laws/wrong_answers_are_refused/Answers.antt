use Rattle.proof_forwarding.proofs.Worked.{refused_rows as lemma}
use Rattle.proof_forwarding.proofs.laws.wrong_answers_are_refused.Goals as goal

pub returns : goal.returns
returns c = lemma
