use Rattle.proof_forwarding.proofs.NoServer.{worked_forwardings as lemma}
use Rattle.proof_forwarding.proofs.laws.worked_forwardings.Goals as goal

pub returns : goal.returns
returns c = lemma
