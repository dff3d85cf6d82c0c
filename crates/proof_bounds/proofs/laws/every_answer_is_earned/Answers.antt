use Rattle.proof_bounds.proofs.Earning.{every_answer_is_earned as lemma}
use Rattle.proof_bounds.proofs.laws.every_answer_is_earned.Goals as goal

pub returns : goal.returns
returns c = lemma
