-- What becomes of the octets that are put at a place: its socket is handed each, in order and once.
use Rattle.std.specs.Prelude.{◌≡◌, ℕ, List, [], ◌∷◌, ◌++◌, Option, option_map}
use Rattle.client_request.specs.declared.event.What.{What}
use Rattle.socket_places.specs.declared.socket.Answer.{Answer}
use Rattle.socket_places.specs.declared.socket.Answer.TheVariants.{Later}
use Rattle.socket_places.specs.declared.socket.Deal.{Deal}
use Rattle.socket_places.specs.declared.socket.Deal.TheVariants.{Put}
use Rattle.socket_places.specs.Places.{Place, IsLook, IsPut}
use Rattle.socket_places.specs.Told.{after_one}

-- the octets, where the socket took of them or failed: what it takes later, it is handed once more
abbrev pub settled : List ℕ → Answer ℕ → List (List ℕ)
settled octets Later = []
settled octets answer = octets ∷ []

abbrev pub handed_by : Deal → List (List ℕ)
handed_by (Put octets answer) = settled octets answer
handed_by deal = []

-- what a socket was handed for good, in order
abbrev pub handed : List Deal → List (List ℕ)
handed [] = []
handed (deal ∷ deals) = handed_by deal ++ handed deals

-- what its socket was handed for good, and behind that what waits, where it is known
abbrev pub in_hand : Place → Option (List (List ℕ))
in_hand p = option_map (λ deals. handed deals ++ p.waiting) p.deals

-- Octets that are put at a place come behind all that were, and a look changes nothing of them. So what the socket was handed, and behind that what
-- waits, is what was put there, in order and each once.
pub record GoOnce : Type 0 where
  pub put : (number : ℕ) (octets : List ℕ) (old new : Place) (told : Option What) → IsPut number octets old new told → in_hand new ≡ after_one octets (in_hand old)
  pub look : (number : ℕ) (old new : Place) (told : Option What) → IsLook number old new told → in_hand new ≡ in_hand old
