use Rattle.proof_forwarding.proofs.Keyed.{equal_queries as lemma}
use Rattle.proof_forwarding.proofs.laws.equal_queries_ask_the_same.Goals as goal

pub returns : goal.returns
returns c = lemma
