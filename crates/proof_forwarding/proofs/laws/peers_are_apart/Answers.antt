use Rattle.proof_forwarding.proofs.Isolated.{peers_are_apart as lemma}
use Rattle.proof_forwarding.proofs.laws.peers_are_apart.Goals as goal

pub returns : goal.returns
returns c = lemma
