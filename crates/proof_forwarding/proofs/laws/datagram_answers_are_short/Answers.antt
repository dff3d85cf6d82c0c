use Rattle.proof_forwarding.proofs.Sizes.{datagram_answers_are_short as lemma}
use Rattle.proof_forwarding.proofs.laws.datagram_answers_are_short.Goals as goal

pub returns : goal.returns
returns c = lemma
