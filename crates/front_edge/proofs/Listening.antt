-- Listeners at one address more.
use Rattle.std.proofs.Common.{◌≡◌, ℕ, ◌+◌, ◌++◌, ◌∷◌, [], List, length, ap, refl, sym, ◌∙◌, length-append, arith}
use Rattle.listener_peers.specs.Doors.{DgramDoor, StreamDoor}
use Rattle.listener_peers.specs.Waits.{Server}
use Rattle.front_edge.specs.Fronts.{IsListening}

pub listens_nowhere : (at : Server) → IsListening 0 at at
listens_nowhere at = record { dgrams = omega arith; streams = omega arith; places = refl }

pub listens_more : (count : ℕ) (old mid new : Server) → IsListening count old mid → IsListening 1 mid new → IsListening (count + 1) old new
listens_more count old mid new some one = record {
  dgrams = (let a = some.dgrams in let b = one.dgrams in omega (arith, a, b));
  streams = (let a = some.streams in let b = one.streams in omega (arith, a, b));
  places = one.places ∙ some.places;
}

-- one listener of each kind
pub listens_once : (old mid new : Server) (dgram : DgramDoor) (stream : StreamDoor)
    → mid ≡ record old { peers = record old.peers { dgrams = old.peers.dgrams ++ dgram ∷ [] } }
    → new ≡ record mid { peers = record mid.peers { doors = mid.peers.doors ++ stream ∷ [] } }
    → IsListening 1 old new
listens_once old mid new dgram stream first second = record {
  dgrams = ap (λ (s : Server). length s.peers.dgrams) second ∙ (ap (λ (s : Server). length s.peers.dgrams) first ∙ length-append old.peers.dgrams (dgram ∷ []));
  streams = ap (λ (s : Server). length s.peers.doors) second ∙ (length-append mid.peers.doors (stream ∷ []) ∙ ap (λ (s : Server). length s.peers.doors + 1) first);
  places = ap (λ (s : Server). s.places) second ∙ ap (λ (s : Server). s.places) first;
}
