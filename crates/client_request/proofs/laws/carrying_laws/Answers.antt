use Rattle.client_request.proofs.Carrying.{composed_says, composed_carries}
use Rattle.client_request.proofs.laws.carrying_laws.Goals as goal

pub returns : goal.returns
returns c = record {
  composed_says = composed_says;
  composed_carries = composed_carries;
}
