use Rattle.client_request.proofs.Limiting.{limit_laws}
use Rattle.client_request.proofs.laws.limit_laws.Goals as goal

pub returns : goal.returns
returns g c = limit_laws g.met.T.Ord.total
