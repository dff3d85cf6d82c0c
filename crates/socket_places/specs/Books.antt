-- The books of a client's edge: its servers, its places, and what happened of which nobody was told.
use Rattle.std.specs.Prelude.{◌≡◌, ℕ, Bool, true, false, is_some, if◌then◌else◌, List, [], ◌∷◌, ◌++◌, drop, Option, None, Some, option_to_list, slice_get, length}
use Rattle.dns_values.specs.declared.address.SocketAddr.{SocketAddr}
use Rattle.client_request.specs.declared.fault.Fault.{Fault}
use Rattle.client_request.specs.declared.fault.Fault.TheVariants as fault
use Rattle.client_request.specs.declared.event.Out.{Out}
use Rattle.client_request.specs.declared.event.Out.TheVariants.{OpenDgram, OpenStream, Send, Write, Resume, Close}
use Rattle.client_request.specs.declared.event.Via.{Via}
use Rattle.client_request.specs.declared.event.Via.TheVariants.{Dgram, Stream}
use Rattle.client_request.specs.declared.event.What.{What}
use Rattle.client_request.specs.declared.event.What.TheVariants as what
use Rattle.socket_places.specs.declared.network.Asked.{Asked}
use Rattle.socket_places.specs.declared.network.Opening.{Opening}
use Rattle.socket_places.specs.declared.socket.Stage.{Stage}
use Rattle.socket_places.specs.declared.socket.Stage.TheVariants as stage
use Rattle.socket_places.specs.Places.{Place}
use Rattle.socket_places.specs.Table.{LooksInto, PutsInto, TouchesOnly, and_place, asked_of_all, but_place, numbers_found, place_at}
use Rattle.socket_places.specs.Told.{IsFresh, after_one}

-- The servers that were learned, in order; the sockets that were to be opened, and the waits, where they are told; at which of its positions the last wait found
-- something; the places that are open; what happened of which nobody was told; and the places at which the last wait found something that was not looked at.
pub record Books : Type 0 where
  pub servers : List SocketAddr
  pub openings : Option (List Opening)
  pub asks : Option (List (List Asked))
  pub finds : List Bool
  pub places : List (ℕ × Place)
  pub happened : List What
  pub found : List ℕ

-- how far a socket is that was opened just now
abbrev pub first_stage : Via → Stage
first_stage Dgram = stage.Dgram
first_stage Stream = stage.Opening

-- what a client is told of a socket that was opened just now: a stream opens later
abbrev pub told_of_opening : ℕ → Via → List What
told_of_opening place Dgram = what.Opened place ∷ []
told_of_opening place Stream = []

-- A place is open with a socket with which nothing was done.
pub record IsNewPlace (number : ℕ) (via : Via) (old new : List (ℕ × Place)) : Type 0 where
  pub place : Place
  pub stage : place.stage ≡ first_stage via
  pub nothing_waits : place.waiting ≡ []
  pub fresh : IsFresh place.deals
  pub added : new ≡ and_place number place old

-- A place is open where its socket was opened, and the client is told so, or why not.
abbrev pub IsOpened : ℕ → Via → Option Fault → (old new : Books) → Type 0
IsOpened place via None old new = IsNewPlace place via old.places new.places × (new.happened ≡ old.happened ++ told_of_opening place via)
IsOpened place via (Some fault) old new = (new.places ≡ old.places) × (new.happened ≡ old.happened ++ what.OpenFailed place fault ∷ [])

-- A socket was to be opened to this address.
pub record OpensTo (place : ℕ) (via : Via) (addr : SocketAddr) (old new : Books) : Type 0 where
  pub why : Option Fault
  pub opening : new.openings ≡ after_one (record { addr = addr; via = via; fault = why }) old.openings
  pub opened : IsOpened place via why old new
  pub others : new ≡ record old { openings = new.openings; places = new.places; happened = new.happened }

-- It is the address of a server, if there is one of that number.
abbrev pub OpensAt : ℕ → Via → Option SocketAddr → (old new : Books) → Type 0
OpensAt place via None old new = new ≡ record old { happened = old.happened ++ what.OpenFailed place fault.Other ∷ [] }
OpensAt place via (Some addr) old new = OpensTo place via addr old new

-- Octets are put at a place, all others stay, and what comes of it happened.
pub record PutsAt (place : ℕ) (octets : List ℕ) (old new : Books) : Type 0 where
  pub told : Option What
  pub puts : PutsInto place octets old.places new.places told
  pub others : TouchesOnly place old.places new.places
  pub after : new ≡ record old { places = new.places; happened = old.happened ++ option_to_list told }

-- an out is acted on
abbrev pub Acts : Out → (old new : Books) → Type 0
Acts (OpenDgram place server) old new = OpensAt place Dgram (slice_get old.servers server) old new
Acts (OpenStream place server) old new = OpensAt place Stream (slice_get old.servers server) old new
Acts (Send place request id octets) old new = PutsAt place octets old new
Acts (Write place request id octets) old new = PutsAt place octets old new
Acts (Resume place octets) old new = PutsAt place octets old new
Acts (Close place) old new = new ≡ record old { places = but_place place old.places }
Acts out old new = new ≡ old

-- the place of which something tells
abbrev pub place_told : What → Option ℕ
place_told (what.Opened place) = Some place
place_told (what.SendFailed place fault) = Some place
place_told (what.ShortSend place) = Some place
place_told (what.Datagram place octets) = Some place
place_told (what.RecvFailed place fault) = Some place
place_told (what.Wrote place count) = Some place
place_told (what.WriteFailed place fault) = Some place
place_told (what.Bytes place octets) = Some place
place_told (what.ReadFailed place fault) = Some place
place_told (what.Ended place) = Some place
place_told happened = None

abbrev pub is_open_at : Option ℕ → List (ℕ × Place) → Bool
is_open_at None places = false
is_open_at (Some number) places = is_some (place_at number places)

-- Only of a place that is open is anything told, but that it could not be opened.
abbrev pub is_told : What → List (ℕ × Place) → Bool
is_told (what.OpenFailed place fault) places = true
is_told happened places = is_open_at (place_told happened) places

-- what is told first of what happened
abbrev pub told_first : List What → List (ℕ × Place) → Option What
told_first [] places = None
told_first (first ∷ happened) places = if is_told first places then Some first else None

abbrev pub but_first : Books → Books
but_first b = record b { happened = drop 1 b.happened }

-- A wait looks for something at these others, and behind them at each place that is open, and these are the places at which there is something.
pub record WaitsBeside (others : List Asked) (old new : Books) : Type 0 where
  pub asks : new.asks ≡ after_one (others ++ asked_of_all old.places) old.asks
  pub found : new.found ≡ numbers_found new.finds (length others) old.places
  pub rest : new ≡ record old { asks = new.asks; finds = new.finds; found = new.found }

-- at each place that is open, and nowhere else
abbrev pub Waits : (old new : Books) → Type 0
Waits old new = WaitsBeside [] old new

-- There is a wait once all at which the last one found something were looked at.
abbrev pub WaitsAgain : List ℕ → (old new : Books) → Type 0
WaitsAgain [] old new = Waits old new
WaitsAgain (number ∷ found) old new = new ≡ old

-- A wait sleeps only where nothing is known of which nobody was told.
abbrev pub Sleeps : List What → (old new : Books) → Type 0
Sleeps [] old new = WaitsAgain old.found old new
Sleeps (what ∷ happened) old new = new ≡ old

-- A stream that could not be opened leaves no place.
abbrev pub kept_places : ℕ → Option What → List (ℕ × Place) → List (ℕ × Place)
kept_places number (Some (what.OpenFailed place fault)) places = but_place number places
kept_places number told places = places

-- The first place at which something was found is looked at, all others stay.
pub record LooksFirst (number : ℕ) (found : List ℕ) (old new : Books) (told : Option What) : Type 0 where
  pub places : List (ℕ × Place)
  pub looks : LooksInto number old.places places told
  pub others : TouchesOnly number old.places places
  pub after : new ≡ record old { places = kept_places number told places; found = found }

abbrev pub Looks : List ℕ → (old new : Books) → Option What → Type 0
Looks [] old new told = (new ≡ old) × (told ≡ None)
Looks (number ∷ found) old new told = LooksFirst number found old new told

-- where nothing happened that is told: a wait without sleep where it is time for one, and then the first place at which something was found
pub record LooksNext (old new : Books) (told : Option What) : Type 0 where
  pub between : Books
  pub waits : WaitsAgain old.found old between
  pub looks : Looks between.found between new told

-- Nothing is known of which nobody was told: nothing happened, and all places at which the last wait found something were looked at.
abbrev pub is_idle_of : List What → List ℕ → Bool
is_idle_of [] [] = true
is_idle_of [] (number ∷ found) = false
is_idle_of (what ∷ happened) found = false

abbrev pub is_idle : Books → Bool
is_idle b = is_idle_of b.happened b.found

-- What is known is told without a wait: what happened first, and then what is at the first place at which something was found.
abbrev pub TellsKnown : Option What → (old new : Books) → Option What → Type 0
TellsKnown (Some first) old new told = (told ≡ Some first) × (new ≡ old)
TellsKnown None old new told = Looks old.found old new told

-- A poll: what happened first is told first.
abbrev pub Polls : Option What → (old new : Books) → Option What → Type 0
Polls (Some first) old new told = (told ≡ Some first) × (new ≡ old)
Polls None old new told = LooksNext old new told
