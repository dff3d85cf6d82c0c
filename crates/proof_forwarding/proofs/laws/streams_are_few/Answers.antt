use Rattle.proof_forwarding.proofs.Bounds.{streams_are_few as lemma}
use Rattle.proof_forwarding.proofs.laws.streams_are_few.Goals as goal

pub returns : goal.returns
returns c = lemma
