use Rattle.proof_shared.proofs.Rows.{legal_histories}
use Rattle.proof_shared.proofs.laws.legal_histories.Goals as goal

pub returns : goal.returns
returns c = legal_histories c.traces_with_settings.ensures.right c.traces_with_settings.ensures.hit c.traces_with_settings.ensures.stale
