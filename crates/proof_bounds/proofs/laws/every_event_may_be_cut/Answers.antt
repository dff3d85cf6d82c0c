use Rattle.proof_bounds.proofs.Pieces.{every_event_may_be_cut as lemma}
use Rattle.proof_bounds.proofs.laws.every_event_may_be_cut.Goals as goal

pub returns : goal.returns
returns c = lemma
