-- Listeners: what they are asked for, and what comes of it.
use Rattle.std.specs.Prelude.{◌≡◌, ℕ, ℤ, true, false, List, Option, None, Some, slice_set}
use Rattle.dns_values.specs.declared.address.SocketAddr.{SocketAddr}
use Rattle.socket_places.specs.declared.socket.Answer.{Answer}
use Rattle.socket_places.specs.declared.socket.Answer.TheVariants.{Done, Failed, Later}
use Rattle.socket_places.specs.declared.network.Asked.{Asked}
use Rattle.socket_places.specs.Told.{after_one}
use Rattle.listener_peers.specs.declared.listener.Post.{Post}

-- the answer without its value
abbrev pub without_value : {T : Type 0} → Answer T → Answer (Unit {0})
without_value (Done value) = Done tt
without_value (Failed fault) = Failed fault
without_value Later = Later

-- What is done has a property.
abbrev pub IfDone : {T : Type 0} → (T → Type 0) → Answer T → Type 0
IfDone Has (Done value) = Has value
IfDone Has (Failed fault) = Unit {0}
IfDone Has Later = Unit {0}

-- a listener for datagrams, and one for streams: its descriptor, and what was done with it
pub record DgramDoor : Type 0 where
  pub descriptor : ℤ
  pub posts : Option (List Post)

pub record StreamDoor : Type 0 where
  pub descriptor : ℤ
  pub accepts : Option (List (Answer (Unit {0})))

abbrev pub after_post : Post → DgramDoor → DgramDoor
after_post post d = record d { posts = after_one post d.posts }

abbrev pub after_accept : Answer (Unit {0}) → StreamDoor → StreamDoor
after_accept answer d = record d { accepts = after_one answer d.accepts }

-- A datagram to an address was handed to the listener at a position, if there is one.
pub record SendsBy (door : DgramDoor) (at : ℕ) (to : SocketAddr) (octets : List ℕ) (old new : List DgramDoor) : Type 0 where
  pub answer : Answer ℕ
  pub after : new ≡ slice_set old at (after_post (Post.Went to octets answer) door)

abbrev pub SendsAt : Option DgramDoor → ℕ → SocketAddr → List ℕ → (old new : List DgramDoor) → Type 0
SendsAt None at to octets old new = new ≡ old
SendsAt (Some door) at to octets old new = SendsBy door at to octets old new

-- Of a listener a wait looks for what came alone.
abbrev pub asked_of_dgrams : DgramDoor → Asked
asked_of_dgrams d = record { descriptor = d.descriptor; reads = true; writes = false }

abbrev pub asked_of_streams : StreamDoor → Asked
asked_of_streams d = record { descriptor = d.descriptor; reads = true; writes = false }
