use Rattle.proof_client.proofs.Traces.{traces_are_right}
use Rattle.proof_client.proofs.laws.traces_with_settings.Goals as goal

pub returns-clause-right : goal.returns-clause-right
returns-clause-right c = traces_are_right
