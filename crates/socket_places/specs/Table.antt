-- The places of a client, in rising order of their numbers.
use Rattle.std.specs.Prelude.{◌≡◌, ◌≢◌, ℕ, Bool, true, nat_lt, if◌then◌else◌, List, [], ◌∷◌, length, map, Option, None, Some}
use Rattle.std.specs.Ordering.{nat_cmp}
use Rattle.std.specs.BTreeMap.{insert_entry, is_at}
use Rattle.std.specs.Map.{lookup, remove_entry}
use Rattle.dns_values.specs.Source.{one_more}
use Rattle.client_request.specs.declared.event.What.{What}
use Rattle.socket_places.specs.declared.network.Asked.{Asked}
use Rattle.socket_places.specs.declared.socket.Stage.{Stage}
use Rattle.socket_places.specs.declared.socket.Stage.TheVariants.{Opening}
use Rattle.socket_places.specs.Places.{Place, IsLook, IsPut, reads}
use Rattle.socket_places.specs.Told.{found_at}

-- the place of a number
abbrev pub place_at : ℕ → List (ℕ × Place) → Option Place
place_at number places = lookup (is_at (nat_cmp number)) places

-- with a place more, and without one
abbrev pub and_place : ℕ → Place → List (ℕ × Place) → List (ℕ × Place)
and_place number place places = insert_entry nat_cmp places number place

abbrev pub but_place : ℕ → List (ℕ × Place) → List (ℕ × Place)
but_place number places = remove_entry (is_at (nat_cmp number)) places

-- each place but that of a number is as it was
abbrev pub TouchesOnly : ℕ → (old new : List (ℕ × Place)) → Type 0
TouchesOnly number old new = (other : ℕ) → other ≢ number → place_at other new ≡ place_at other old

-- A place that is open became another by this, and the client is told so; where none is open, nothing happened.
abbrev pub IfOpen : ((old new : Place) → Option What → Type 0) → (old new : Option Place) → Option What → Type 0
IfOpen Becomes None new told = (new ≡ None) × (told ≡ None)
IfOpen Becomes (Some old) None told = ⊥
IfOpen Becomes (Some old) (Some new) told = Becomes old new told

-- octets are put at the place of a number
abbrev pub PutsInto : ℕ → List ℕ → (old new : List (ℕ × Place)) → Option What → Type 0
PutsInto number octets old new told = IfOpen (IsPut number octets) (place_at number old) (place_at number new) told

-- the place of a number is looked at
abbrev pub LooksInto : ℕ → (old new : List (ℕ × Place)) → Option What → Type 0
LooksInto number old new told = IfOpen (IsLook number) (place_at number old) (place_at number new) told

-- whether a socket is to take octets, or to be connected
abbrev pub writes : Stage → ℕ → Bool
writes Opening count = true
writes stage count = nat_lt 0 count

-- What a wait is to look for at a place: whether something came, and, where octets wait or the stream is not open yet, whether it takes them.
abbrev pub asked_of : Place → Asked
asked_of p = record { descriptor = p.descriptor; reads = reads p.stage; writes = writes p.stage (length p.waiting) }

-- what it is to look for at all of them
abbrev pub asked_of_all : List (ℕ × Place) → List Asked
asked_of_all places = map (λ entry. asked_of entry.1) places

-- the numbers of the places, of which the first has this position, at whose positions a wait found something
abbrev pub numbers_found : List Bool → ℕ → List (ℕ × Place) → List ℕ
numbers_found found at [] = []
numbers_found found at (entry ∷ places) = if found_at found at then entry.0 ∷ numbers_found found (one_more at) places else numbers_found found (one_more at) places
