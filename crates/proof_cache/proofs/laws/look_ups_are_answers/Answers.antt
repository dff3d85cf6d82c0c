use Rattle.proof_cache.proofs.Finding.{look_ups_are_answers}
use Rattle.proof_cache.proofs.laws.look_ups_are_answers.Goals as goal

pub returns : goal.returns
returns c = look_ups_are_answers
