-- One wait over the listeners, the peers and the places of a server.
use Rattle.std.specs.Prelude.{◌≡◌, ℕ, Bool, true, false, if◌then◌else◌, ◌&&◌, List, [], ◌∷◌, ◌++◌, map, Option, None, Some}
use Rattle.dns_values.specs.Source.{one_more}
use Rattle.client_request.specs.declared.event.What.{What}
use Rattle.socket_places.specs.declared.network.Asked.{Asked}
use Rattle.socket_places.specs.Told.{found_at}
use Rattle.socket_places.specs.Books.{TellsKnown, WaitsBeside, but_first, told_first}
use Rattle.socket_places.specs.Books.{Books as Places, is_idle as are_idle}
use Rattle.listener_peers.specs.declared.heard.Heard.{Heard}
use Rattle.listener_peers.specs.declared.server.Told.{Told}
use Rattle.listener_peers.specs.declared.server.Told.TheVariants as kinds
use Rattle.listener_peers.specs.declared.heard.Spot.{Spot}
use Rattle.listener_peers.specs.declared.heard.Spot.TheVariants as spot
use Rattle.listener_peers.specs.Books.{Books, Looks, is_idle}
use Rattle.listener_peers.specs.Doors.{DgramDoor, StreamDoor, asked_of_dgrams, asked_of_streams}
use Rattle.listener_peers.specs.Streams.{Peer, asked_of}

-- how many more a listener may give that was found, before another wait
abbrev pub burst : ℕ
burst = 63

-- What a wait is to look for: at the listeners for datagrams, at those for streams, and at the peers.
abbrev pub asked_of_doors : List DgramDoor → List Asked
asked_of_doors dgrams = map (λ d. asked_of_dgrams d) dgrams

abbrev pub asked_of_listeners : List StreamDoor → List Asked
asked_of_listeners doors = map (λ d. asked_of_streams d) doors

abbrev pub asked_of_peers : List (ℕ × Peer) → List Asked
asked_of_peers peers = map (λ entry. asked_of entry.1) peers

abbrev pub asked_of_books : Books → List Asked
asked_of_books b = asked_of_doors b.dgrams ++ (asked_of_listeners b.doors ++ asked_of_peers b.peers.open_ones)

-- where something is found at these positions
abbrev pub spots_of_doors : ℕ → List DgramDoor → List Spot
spots_of_doors at [] = []
spots_of_doors at (d ∷ dgrams) = spot.Dgrams at burst ∷ spots_of_doors (one_more at) dgrams

abbrev pub spots_of_listeners : ℕ → List StreamDoor → List Spot
spots_of_listeners at [] = []
spots_of_listeners at (d ∷ doors) = spot.Streams at burst ∷ spots_of_listeners (one_more at) doors

abbrev pub spots_of_peers : List (ℕ × Peer) → List Spot
spots_of_peers peers = map (λ entry. spot.Stream entry.0) peers

abbrev pub spots_of_books : Books → List Spot
spots_of_books b = spots_of_doors 0 b.dgrams ++ (spots_of_listeners 0 b.doors ++ spots_of_peers b.peers.open_ones)

abbrev pub found_one : Bool → Spot → List Spot
found_one found spot = if found then spot ∷ [] else []

-- those of them, of which the first has this position, at whose positions a wait found something
abbrev pub found_among : List Bool → ℕ → List Spot → List Spot
found_among finds at [] = []
found_among finds at (first ∷ spots) = found_one (found_at finds at) first ++ found_among finds (one_more at) spots

-- the places of a client, and the listeners and peers of a server
pub record Server : Type 0 where
  pub places : Places
  pub peers : Books

-- One wait looks for something at all of them, and what it found is known to each.
pub record WaitsForAll (old new : Server) : Type 0 where
  pub places : WaitsBeside (asked_of_books old.peers) old.places new.places
  pub peers : new.peers ≡ record old.peers { found = old.peers.found ++ found_among new.places.finds 0 (spots_of_books old.peers) }

-- A wait sleeps only where nothing is known of which nobody was told.
abbrev pub WaitsWhere : (idle : Bool) → (old new : Server) → Type 0
WaitsWhere true old new = WaitsForAll old new
WaitsWhere false old new = new ≡ old

abbrev pub Sleeps : (old new : Server) → Type 0
Sleeps old new = WaitsWhere (are_idle old.places && is_idle old.peers) old new

abbrev pub told_of_peer : Option Heard → Option Told
told_of_peer None = None
told_of_peer (Some heard) = Some (kinds.Peer heard)

pub record TellsOfPeer (old new : Books) (told : Option Told) : Type 0 where
  pub heard : Option Heard
  pub looks : Looks old.found old new heard
  pub tells : told ≡ told_of_peer heard

-- What is known at a place is told before what is at a peer.
abbrev pub TellsNext : Option What → (old new : Books) → Option Told → Type 0
TellsNext (Some what) old new told = (new ≡ old) × (told ≡ Some (kinds.Place what))
TellsNext None old new told = TellsOfPeer old new told

-- A poll: a wait without sleep where nothing is known, and then what is known.
pub record Polls (old new : Server) (told : Option Told) : Type 0 where
  pub between : Server
  pub waits : Sleeps old between
  pub known : Option What
  pub places : TellsKnown (told_first between.places.happened between.places.places) (but_first between.places) new.places known
  pub peers : TellsNext known between.peers new.peers told
