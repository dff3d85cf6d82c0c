-- What becomes of the octets that are put at a peer: its socket takes each, in order and once.
use Rattle.std.specs.Prelude.{◌≡◌, ℕ, Bool, false, List, [], ◌∷◌, ◌++◌, take, Option, option_map}
use Rattle.socket_places.specs.declared.socket.Answer.{Answer}
use Rattle.socket_places.specs.declared.socket.Answer.TheVariants.{Done}
use Rattle.socket_places.specs.declared.socket.Deal.{Deal}
use Rattle.socket_places.specs.declared.socket.Deal.TheVariants.{Put}
use Rattle.listener_peers.specs.declared.heard.Heard.{Heard}
use Rattle.listener_peers.specs.Streams.{Peer, IsLook, IsPut}

-- the octets that a socket took of those that it was handed
abbrev pub taken_of : List ℕ → Answer ℕ → List ℕ
taken_of octets (Done count) = take count octets
taken_of octets answer = []

abbrev pub taken_by : Deal → List ℕ
taken_by (Put octets answer) = taken_of octets answer
taken_by deal = []

-- what a socket took, in order
abbrev pub taken : List Deal → List ℕ
taken [] = []
taken (deal ∷ deals) = taken_by deal ++ taken deals

-- what its socket took, and behind that what is unsent, where it is known
abbrev pub in_hand : Peer → Option (List ℕ)
in_hand p = option_map (λ deals. taken deals ++ p.unsent) p.deals

-- Octets that are put at a peer that is not broken come behind all that were, and a look changes nothing of them. So what the socket took, and behind that
-- what is unsent, is what was put there, in order and each octet once.
pub record GoOnce : Type 0 where
  pub put : (octets : List ℕ) (old new : Peer) → old.broken ≡ false → IsPut octets old new → in_hand new ≡ option_map (λ before. before ++ octets) (in_hand old)
  pub look : (peer : ℕ) (old new : Peer) (told : Option Heard) → IsLook peer old new told → in_hand new ≡ in_hand old
