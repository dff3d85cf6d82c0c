use Rattle.proof_bounds.proofs.Worked.{worked as lemma}
use Rattle.proof_bounds.proofs.laws.worked_bounds.Goals as goal

pub returns : goal.returns
returns c = lemma
