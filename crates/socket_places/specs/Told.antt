-- Lists that what is called tells of, where it knows them.
use Rattle.std.specs.Prelude.{◌≡◌, ℕ, Bool, false, slice_get, ◌≤◌, List, [], ◌∷◌, ◌++◌, Option, None, Some, option_map, Result, Ok, Err}
use Rattle.std.specs.Option.{unwrap_or}
use Rattle.client_request.specs.declared.fault.Fault.{Fault}
use Rattle.socket_places.specs.declared.socket.Answer.{Answer}
use Rattle.socket_places.specs.declared.socket.Answer.TheVariants.{Done, Failed, Later}

-- what is told after one thing more
abbrev pub after_one : {T : Type 0} → T → Option (List T) → Option (List T)
after_one thing told = option_map (λ things. things ++ thing ∷ []) told

-- no more octets were taken than there were
abbrev pub IsWithin : ℕ → Answer ℕ → Type 0
IsWithin most (Done count) = count ≤ most
IsWithin most (Failed fault) = Unit {0}
IsWithin most Later = Unit {0}

-- where a list is told, there is nothing in it
abbrev pub IsFresh : {T : Type 0} → Option (List T) → Type 0
IsFresh None = Unit {0}
IsFresh (Some things) = things ≡ []

-- why a socket was not opened
abbrev pub fault_of : {T : Type 0} → Result T Fault → Option Fault
fault_of (Ok socket) = None
fault_of (Err fault) = Some fault

-- whether something was found at a position: nothing past the list's end
abbrev pub found_at : List Bool → ℕ → Bool
found_at found at = unwrap_or (slice_get found at) false
