use Rattle.proof_client.proofs.Traces.{every_plain_trace_is_right}
use Rattle.proof_client.proofs.laws.every_plain_trace_is_right.Goals as goal

pub returns : goal.returns
returns c = every_plain_trace_is_right
