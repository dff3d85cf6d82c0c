-- Where requests are started and given up, an event that passed the datagrams is still nothing to them.
use Rattle.std.proofs.Common.{◌≡◌, ℕ, Some, refl}
use Rattle.client_request.specs.declared.event.What.{What}
use Rattle.proof_right.specs.machine.Dgrams.{Dgrams}
use Rattle.proof_right.specs.machine.Served.{Served}
use Rattle.proof_parts.specs.PartTie.{Phase, Untold, Told, Passed, IsOpen}
use Rattle.proof_dgram.specs.AtServer.{with_dgrams}
use Rattle.proof_dgram.specs.Fallback.{IsOver, pending_in}
use Rattle.proof_dgram.specs.Placed.{StayAt}
use Rattle.proof_dgram.proofs.Placed.{places_stay}
use Rattle.right_trace.specs.Trace.{Conf}

-- datagrams that stay where they were
pub still_over : (c : Conf) (phase : Phase) (next : ℕ) (a : Served) (e : Dgrams) → IsOpen phase next → StayAt next a.server.by_dgram e → IsOver c phase a → IsOver c phase (with_dgrams e a)
still_over c (Untold w) next a e may stay over = tt
still_over c (Told p left) next a e may stay over = absurd may
still_over c (Passed w) next a e may stay over = (places_stay c).ignored w next a.server.by_dgram e may stay over

-- the same datagrams beside other streams
pub over_beside : (c : Conf) (phase : Phase) (next : ℕ) (a z : Served) → IsOpen phase next → IsOver c phase a → IsOver c phase (with_dgrams a.server.by_dgram z)
over_beside c (Untold w) next a z may over = tt
over_beside c (Told p left) next a z may over = absurd may
over_beside c (Passed w) next a z may over = over

-- the event that was not taken
pub event_of : (phase : Phase) (next : ℕ) → IsOpen phase next → (w : What) × (pending_in phase ≡ Some w)
event_of (Untold w) next may = (w, refl)
event_of (Told p left) next may = absurd may
event_of (Passed w) next may = (w, refl)
