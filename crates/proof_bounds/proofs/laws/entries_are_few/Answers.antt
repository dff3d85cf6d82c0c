use Rattle.proof_bounds.proofs.Cached.{entries_are_few as lemma}
use Rattle.proof_bounds.proofs.laws.entries_are_few.Goals as goal

pub returns : goal.returns
returns c = lemma
