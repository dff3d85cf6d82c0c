-- The books of a server's listeners.
use Rattle.client_request.specs.Peers.{first_stream}
use Rattle.std.specs.Prelude.{◌≡◌, ℕ, Bool, true, false, ◌-◌, if◌then◌else◌, nat_lt, List, [], ◌∷◌, ◌++◌, Option, None, Some, option_to_list, slice_get, slice_set}
use Rattle.socket_places.specs.declared.socket.Answer.{Answer}
use Rattle.socket_places.specs.declared.socket.Answer.TheVariants.{Done, Failed, Later}
use Rattle.listener_peers.specs.declared.heard.Heard.{Heard}
use Rattle.listener_peers.specs.declared.heard.Heard.TheVariants as heard
use Rattle.listener_peers.specs.declared.listener.Letter.{Letter}
use Rattle.listener_peers.specs.declared.listener.Post.{Post}
use Rattle.listener_peers.specs.declared.senders.Sender.{Sender}
use Rattle.listener_peers.specs.declared.heard.Spot.{Spot}
use Rattle.listener_peers.specs.declared.heard.Spot.TheVariants as spot
use Rattle.listener_peers.specs.Doors.{DgramDoor, SendsAt, StreamDoor, after_accept, after_post}
use Rattle.listener_peers.specs.Peers.{Peers, IsNewPeer, LooksInto, PutsInto, but_peer, is_broken_at, peer_at}
use Rattle.listener_peers.specs.Senders.{Senders, and_next, but_sender, sender_at}

-- The listeners for datagrams and for streams; who sent the datagrams that had no answer yet; the peers whose streams are open; and where something was found
-- that was not looked at.
pub record Books : Type 0 where
  pub dgrams : List DgramDoor
  pub doors : List StreamDoor
  pub senders : Senders
  pub peers : Peers
  pub found : List Spot

-- What comes of a datagram that was asked for: its sender is kept under its number.
abbrev pub TellsDatagram : (at : ℕ) → Answer Letter → (old new : Senders) → Option Heard → Type 0
TellsDatagram at (Done letter) old new told = (new ≡ and_next (record { door = at; from = letter.from }) old) × (told ≡ Some (heard.Datagram old.next letter.octets))
TellsDatagram at (Failed fault) old new told = (new ≡ old) × (told ≡ None)
TellsDatagram at Later old new told = (new ≡ old) × (told ≡ None)

-- The listener at a position was asked for a datagram, if there is one.
abbrev pub AsksDoor : Option DgramDoor → ℕ → Option (Answer Letter) → (old new : List DgramDoor) → Type 0
AsksDoor None at got old new = (got ≡ None) × (new ≡ old)
AsksDoor (Some door) at None old new = ⊥
AsksDoor (Some door) at (Some answer) old new = new ≡ slice_set old at (after_post (Post.Came answer) door)

-- What it gave is told, or that there was nothing.
abbrev pub TellsIfAsked : (at : ℕ) → Option (Answer Letter) → (old new : Senders) → Option Heard → Type 0
TellsIfAsked at None old new told = (new ≡ old) × (told ≡ None)
TellsIfAsked at (Some answer) old new told = TellsDatagram at answer old new told

pub record ReceivesAt (at : ℕ) (old new : Books) (told : Option Heard) : Type 0 where
  pub got : Option (Answer Letter)
  pub asks : AsksDoor (slice_get old.dgrams at) at got old.dgrams new.dgrams
  pub tells : TellsIfAsked at got old.senders new.senders told
  pub after : new ≡ record old { dgrams = new.dgrams; senders = new.senders }

-- What comes of a stream that was asked for: it is that of a new peer.
abbrev pub TellsAccepted : Answer (Unit {0}) → (old new : Peers) → Option Heard → Type 0
TellsAccepted (Done done) old new told = IsNewPeer old new × (told ≡ Some (heard.Accepted old.next))
TellsAccepted (Failed fault) old new told = (new ≡ old) × (told ≡ None)
TellsAccepted Later old new told = (new ≡ old) × (told ≡ None)

-- The listener at a position was asked for a stream, if there is one.
abbrev pub AsksListener : Option StreamDoor → ℕ → Option (Answer (Unit {0})) → (old new : List StreamDoor) → Type 0
AsksListener None at got old new = (got ≡ None) × (new ≡ old)
AsksListener (Some door) at None old new = ⊥
AsksListener (Some door) at (Some answer) old new = new ≡ slice_set old at (after_accept answer door)

abbrev pub TellsIfAccepted : Option (Answer (Unit {0})) → (old new : Peers) → Option Heard → Type 0
TellsIfAccepted None old new told = (new ≡ old) × (told ≡ None)
TellsIfAccepted (Some answer) old new told = TellsAccepted answer old new told

pub record AcceptsAt (at : ℕ) (old new : Books) (told : Option Heard) : Type 0 where
  pub got : Option (Answer (Unit {0}))
  pub asks : AsksListener (slice_get old.doors at) at got old.doors new.doors
  pub tells : TellsIfAccepted got old.peers new.peers told
  pub after : new ≡ record old { doors = new.doors; peers = new.peers }

-- the peer of a number is looked at
pub record LooksAtPeer (number : ℕ) (old new : Books) (told : Option Heard) : Type 0 where
  pub looks : LooksInto number old.peers new.peers told
  pub after : new ≡ record old { peers = new.peers }

-- What was found is looked at.
abbrev pub LooksAt : Spot → (old new : Books) → Option Heard → Type 0
LooksAt (spot.Dgrams at left) old new told = ReceivesAt at old new told
LooksAt (spot.Streams at left) old new told = AcceptsAt at old new told
LooksAt (spot.Stream number) old new told = LooksAtPeer number old new told

-- A listener that gave something is looked at again behind everything else that was found, but not for ever.
abbrev pub once_more : Spot → Option Spot
once_more (spot.Dgrams at left) = if nat_lt 0 left then Some (spot.Dgrams at (left - 1)) else None
once_more (spot.Streams at left) = if nat_lt 0 left then Some (spot.Streams at (left - 1)) else None
once_more (spot.Stream number) = None

abbrev pub again : Spot → Option Heard → List Spot
again spot None = []
again spot (Some heard) = option_to_list (once_more spot)

pub record LooksFirst (first : Spot) (found : List Spot) (old new : Books) (told : Option Heard) : Type 0 where
  pub between : Books
  pub looks : LooksAt first (record old { found = found }) between told
  pub after : new ≡ record between { found = between.found ++ again first told }

-- What was found first is looked at.
abbrev pub Looks : List Spot → (old new : Books) → Option Heard → Type 0
Looks [] old new told = (new ≡ old) × (told ≡ None)
Looks (first ∷ found) old new told = LooksFirst first found old new told

-- a broken peer is looked at without a wait
abbrev pub if_broken : Bool → ℕ → List Spot
if_broken broken number = if broken then spot.Stream number ∷ [] else []

-- Octets go to the sender of a datagram, from the listener at which that came, once: it is forgotten then.
abbrev pub SendsTo : Option Sender → List ℕ → (old new : List DgramDoor) → Type 0
SendsTo None octets old new = new ≡ old
SendsTo (Some sender) octets old new = SendsAt (slice_get old sender.door) sender.door sender.from octets old new

pub record AnswersDatagram (number : ℕ) (octets : List ℕ) (old new : Books) : Type 0 where
  pub sends : SendsTo (sender_at number old.senders.kept) octets old.dgrams new.dgrams
  pub after : new ≡ record old { dgrams = new.dgrams; senders = record { next = old.senders.next; kept = but_sender number old.senders.kept } }

-- Octets are put at the stream of a peer.
pub record AnswersStream (number : ℕ) (octets : List ℕ) (old new : Books) : Type 0 where
  pub puts : PutsInto number octets old.peers new.peers
  pub after : new ≡ record old { peers = new.peers; found = old.found ++ if_broken (is_broken_at (peer_at number new.peers.open_ones)) number }

abbrev pub AnswersBy : (is_stream : Bool) → ℕ → List ℕ → (old new : Books) → Type 0
AnswersBy false number octets old new = AnswersDatagram number octets old new
AnswersBy true number octets old new = AnswersStream number octets old new

abbrev pub is_stream : ℕ → Bool
is_stream number = if nat_lt number first_stream then false else true

abbrev pub Answers : ℕ → List ℕ → (old new : Books) → Type 0
Answers number octets old new = AnswersBy (is_stream number) number octets old new

abbrev pub but_open : ℕ → Books → Books
but_open number b = record b { peers = record { next = b.peers.next; open_ones = but_peer number b.peers.open_ones } }

abbrev pub is_idle_of : List Spot → Bool
is_idle_of [] = true
is_idle_of (first ∷ found) = false

-- Nothing was found that was not looked at.
abbrev pub is_idle : Books → Bool
is_idle b = is_idle_of b.found
