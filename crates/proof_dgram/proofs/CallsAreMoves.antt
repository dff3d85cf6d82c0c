-- Each call of a datagram connection leaves what moves of the machine leave.
use Rattle.proof_dgram.specs.Calls.{CallsAreMoves}
use Rattle.proof_dgram.proofs.Firing.{fires_does}
use Rattle.proof_dgram.proofs.TakingOn.{sends_does}
use Rattle.proof_dgram.proofs.Dropping.{cancels_does}
use Rattle.proof_dgram.proofs.Telling.{tells_does}
use Rattle.right_trace.specs.Trace.{Conf}

pub calls_are_moves : (c : Conf) → CallsAreMoves c
calls_are_moves c = record {
  fires = λ server s d v i due f fair set late. fires_does c server s d v i due f fair set late;
  sends = λ server s d v r f fair octets unheld. sends_does c server s d v r f fair octets unheld;
  cancels = cancels_does c;
  tells = λ server s d v what f fair. tells_does c server s d v f fair what;
}
