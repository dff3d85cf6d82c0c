use Rattle.proof_cache.proofs.LookUps.{look_ups_are_askings}
use Rattle.proof_cache.proofs.laws.look_ups_are_askings.Goals as goal

pub returns : goal.returns
returns c = look_ups_are_askings
