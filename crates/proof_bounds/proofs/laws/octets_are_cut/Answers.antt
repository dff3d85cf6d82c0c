use Rattle.proof_bounds.proofs.Frames.{octets_are_cut as lemma}
use Rattle.proof_bounds.proofs.laws.octets_are_cut.Goals as goal

pub returns : goal.returns
returns c = lemma
