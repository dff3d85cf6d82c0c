use Rattle.proof_bounds.proofs.Little.{streams_keep_little as lemma}
use Rattle.proof_bounds.proofs.laws.streams_keep_little.Goals as goal

pub returns : goal.returns
returns c = lemma
