use Rattle.proof_cache.proofs.Listed.{look_ups_are_listed}
use Rattle.proof_cache.proofs.laws.look_ups_are_listed.Goals as goal

pub returns : goal.returns
returns c = look_ups_are_listed
