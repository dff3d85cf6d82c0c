use Rattle.proof_bounds.proofs.Posts.{listeners_answer_senders as lemma}
use Rattle.proof_bounds.proofs.laws.listeners_answer_senders.Goals as goal

pub returns : goal.returns
returns c = lemma
