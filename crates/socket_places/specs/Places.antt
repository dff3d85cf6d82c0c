-- A place: how far its socket is, and what is to be done with that.
use Rattle.std.specs.Prelude.{◌≡◌, ℕ, ℤ, Bool, true, false, if◌then◌else◌, nat_lt, List, [], ◌∷◌, ◌++◌, length, drop, Option, None, Some, slice_get}
use Rattle.client_request.specs.declared.event.What.{What}
use Rattle.client_request.specs.declared.event.What.TheVariants as what
use Rattle.socket_places.specs.declared.socket.Answer.{Answer}
use Rattle.socket_places.specs.declared.socket.Answer.TheVariants.{Done, Failed, Later}
use Rattle.socket_places.specs.declared.socket.Deal.{Deal}
use Rattle.socket_places.specs.declared.socket.Deal.TheVariants.{Opened, Put, Took}
use Rattle.socket_places.specs.declared.socket.Stage.{Stage}
use Rattle.socket_places.specs.declared.socket.Stage.TheVariants.{Dgram, Opening, Open, Ended}
use Rattle.socket_places.specs.Told.{after_one}

-- a place: how far its socket is, its descriptor, the octets that it did not take yet, and what was done with it
pub record Place : Type 0 where
  pub stage : Stage
  pub descriptor : ℤ
  pub waiting : List (List ℕ)
  pub deals : Option (List Deal)

-- What a socket took, or failed to take, waits no longer; what it takes later still does.
abbrev pub still_waiting : Answer ℕ → List (List ℕ) → List (List ℕ)
still_waiting Later waiting = waiting
still_waiting answer waiting = drop 1 waiting

abbrev pub waiting_after : Deal → List (List ℕ) → List (List ℕ)
waiting_after (Put octets answer) waiting = still_waiting answer waiting
waiting_after deal waiting = waiting

-- a stream that tried to open
abbrev pub after_opening : Answer (Unit {0}) → Stage
after_opening (Done done) = Open
after_opening (Failed fault) = Ended
after_opening Later = Opening

-- a stream that was read
abbrev pub after_reading : Answer (List ℕ) → Stage
after_reading (Done []) = Ended
after_reading (Done (octet ∷ octets)) = Open
after_reading (Failed fault) = Ended
after_reading Later = Open

abbrev pub stage_after : Deal → Stage → Stage
stage_after (Opened answer) stage = after_opening answer
stage_after (Took answer) Open = after_reading answer
stage_after deal stage = stage

-- a place after a deal with its socket
abbrev pub after_deal : Deal → Place → Place
after_deal deal p = record { stage = stage_after deal p.stage; descriptor = p.descriptor; waiting = waiting_after deal p.waiting; deals = after_one deal p.deals }

-- a place at which octets wait behind those that do
abbrev pub and_waiting : List ℕ → Place → Place
and_waiting octets p = record p { waiting = p.waiting ++ octets ∷ [] }

-- What a client is told of a deal with a socket for datagrams at a place.
abbrev pub told_of_dgram : ℕ → Deal → Option What
told_of_dgram place (Put octets (Done count)) = if nat_lt count (length octets) then Some (what.ShortSend place) else None
told_of_dgram place (Put octets (Failed fault)) = Some (what.SendFailed place fault)
told_of_dgram place (Took (Done octets)) = Some (what.Datagram place octets)
told_of_dgram place (Took (Failed fault)) = Some (what.RecvFailed place fault)
told_of_dgram place deal = None

-- What it is told of a deal with a stream.
abbrev pub told_of_stream : ℕ → Deal → Option What
told_of_stream place (Opened (Done done)) = Some (what.Opened place)
told_of_stream place (Opened (Failed fault)) = Some (what.OpenFailed place fault)
told_of_stream place (Put octets (Done count)) = Some (what.Wrote place count)
told_of_stream place (Put octets (Failed fault)) = Some (what.WriteFailed place fault)
told_of_stream place (Took (Done [])) = Some (what.Ended place)
told_of_stream place (Took (Done (octet ∷ octets))) = Some (what.Bytes place (octet ∷ octets))
told_of_stream place (Took (Failed fault)) = Some (what.ReadFailed place fault)
told_of_stream place deal = None

abbrev pub told_of : ℕ → Stage → Deal → Option What
told_of place Dgram deal = told_of_dgram place deal
told_of place stage deal = told_of_stream place deal

-- A deal with the socket of a place was made, and the client is told what comes of it.
pub record IsDeal (number : ℕ) (old new : Place) (told : Option What) (deal : Deal) : Type 0 where
  pub after : new ≡ after_deal deal old
  pub tells : told ≡ told_of number old.stage deal

-- It was handed what waits first.
pub record HandsFirst (number : ℕ) (old new : Place) (told : Option What) : Type 0 where
  pub octets : List ℕ
  pub answer : Answer ℕ
  pub is_first : slice_get old.waiting 0 ≡ Some octets
  pub deal : IsDeal number old new told (Put octets answer)

-- It was asked for what came.
pub record Reads (number : ℕ) (old new : Place) (told : Option What) : Type 0 where
  pub answer : Answer (List ℕ)
  pub deal : IsDeal number old new told (Took answer)

-- It was to open.
pub record Opens (number : ℕ) (old new : Place) (told : Option What) : Type 0 where
  pub answer : Answer (Unit {0})
  pub deal : IsDeal number old new told (Opened answer)

-- Nothing was done with it.
abbrev pub Rests : (old new : Place) → Option What → Type 0
Rests old new told = (new ≡ old) × (told ≡ None)

-- Octets are put at a place: where none wait, its socket is handed them; else they wait behind those.
abbrev pub PutsAt : ℕ → Bool → (old new : Place) → Option What → Type 0
PutsAt number true old new told = Rests old new told
PutsAt number false old new told = HandsFirst number old new told

abbrev pub IsPut : ℕ → List ℕ → (old new : Place) → Option What → Type 0
IsPut number octets old new told = PutsAt number (nat_lt 0 (length old.waiting)) (and_waiting octets old) new told

-- A place is looked at: a stream opens first; then its socket is handed what waits first; and where nothing waits, it is read, up to its end.
abbrev pub LooksAt : ℕ → Stage → Bool → (old new : Place) → Option What → Type 0
LooksAt number Opening waits old new told = Opens number old new told
LooksAt number stage true old new told = HandsFirst number old new told
LooksAt number Ended false old new told = Rests old new told
LooksAt number stage false old new told = Reads number old new told

pub record IsLook (number : ℕ) (old new : Place) (told : Option What) : Type 0 where
  pub looks : LooksAt number old.stage (nat_lt 0 (length old.waiting)) old new told

-- Sockets for datagrams and streams that are connected are read.
abbrev pub reads : Stage → Bool
reads Dgram = true
reads Open = true
reads stage = false
