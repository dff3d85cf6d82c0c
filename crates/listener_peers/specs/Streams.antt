-- The stream of a peer: what its socket is handed, and what is told of it.
use Rattle.std.specs.Prelude.{◌≡◌, ℕ, ℤ, Bool, true, false, ◌||◌, if◌then◌else◌, nat_lt, List, [], ◌∷◌, ◌++◌, length, drop, Option, None, Some}
use Rattle.socket_places.specs.declared.socket.Answer.{Answer}
use Rattle.socket_places.specs.declared.socket.Answer.TheVariants.{Done, Failed, Later}
use Rattle.socket_places.specs.declared.socket.Deal.{Deal}
use Rattle.socket_places.specs.declared.socket.Deal.TheVariants.{Put, Took}
use Rattle.socket_places.specs.declared.network.Asked.{Asked}
use Rattle.socket_places.specs.Told.{after_one}
use Rattle.listener_peers.specs.declared.heard.Heard.{Heard}
use Rattle.listener_peers.specs.declared.heard.Heard.TheVariants.{Bytes, Gone}

-- the stream of a peer: its descriptor, the octets that its socket has not taken yet, whether it is broken, and what was done with it
pub record Peer : Type 0 where
  pub descriptor : ℤ
  pub unsent : List ℕ
  pub broken : Bool
  pub deals : Option (List Deal)

-- a peer at which more octets are unsent is broken
abbrev pub most_unsent : ℕ
most_unsent = 1048576

-- What a socket took is no longer unsent.
abbrev pub still_unsent : Answer ℕ → List ℕ → List ℕ
still_unsent (Done count) unsent = drop count unsent
still_unsent answer unsent = unsent

abbrev pub is_failure : Answer ℕ → Bool
is_failure (Failed fault) = true
is_failure answer = false

-- Its socket was handed all that is unsent.
abbrev pub after_handing : Answer ℕ → Peer → Peer
after_handing answer p = record { descriptor = p.descriptor; unsent = still_unsent answer p.unsent; broken = is_failure answer; deals = after_one (Put p.unsent answer) p.deals }

pub record HandsOver (old new : Peer) : Type 0 where
  pub answer : Answer ℕ
  pub after : new ≡ after_handing answer old

-- Octets stand behind those that are unsent.
abbrev pub and_unsent : List ℕ → Peer → Peer
and_unsent octets p = record p { unsent = p.unsent ++ octets }

-- A peer that takes too little for long is broken.
abbrev pub if_small : Peer → Peer
if_small p = record p { broken = p.broken || nat_lt most_unsent (length p.unsent) }

-- What was put behind octets that are unsent waits, else the socket is handed it.
abbrev pub HandsUnless : (waits : Bool) → (old new : Peer) → Type 0
HandsUnless true old new = new ≡ old
HandsUnless false old new = HandsOver old new

pub record Takes (octets : List ℕ) (old new : Peer) : Type 0 where
  pub between : Peer
  pub hands : HandsUnless (nat_lt 0 (length old.unsent)) (and_unsent octets old) between
  pub after : new ≡ if_small between

-- Octets are put at a peer that is not broken.
abbrev pub TakesUnless : (broken : Bool) → List ℕ → (old new : Peer) → Type 0
TakesUnless true octets old new = new ≡ old
TakesUnless false octets old new = Takes octets old new

abbrev pub IsPut : List ℕ → (old new : Peer) → Type 0
IsPut octets old new = TakesUnless old.broken octets old new

-- What is told of octets for which the socket of a peer was asked: its end and a fault are the end of the peer.
abbrev pub told_of_reading : ℕ → Answer (List ℕ) → Option Heard
told_of_reading peer (Done []) = Some (Gone peer)
told_of_reading peer (Done (octet ∷ octets)) = Some (Bytes peer (octet ∷ octets))
told_of_reading peer (Failed fault) = Some (Gone peer)
told_of_reading peer Later = None

abbrev pub gone_if : Bool → ℕ → Option Heard
gone_if broken peer = if broken then Some (Gone peer) else None

-- Its socket was asked for what came.
pub record Reads (peer : ℕ) (old new : Peer) (told : Option Heard) : Type 0 where
  pub answer : Answer (List ℕ)
  pub after : new ≡ record old { deals = after_one (Took answer) old.deals }
  pub tells : told ≡ told_of_reading peer answer

-- It was handed what is unsent.
pub record Writes (peer : ℕ) (old new : Peer) (told : Option Heard) : Type 0 where
  pub hands : HandsOver old new
  pub tells : told ≡ gone_if new.broken peer

-- A peer is looked at: one that is broken is no more; its socket is handed what is unsent; and where nothing is, it is read.
abbrev pub LooksAt : ℕ → (broken waits : Bool) → (old new : Peer) → Option Heard → Type 0
LooksAt peer true waits old new told = (new ≡ old) × (told ≡ Some (Gone peer))
LooksAt peer false true old new told = Writes peer old new told
LooksAt peer false false old new told = Reads peer old new told

pub record IsLook (peer : ℕ) (old new : Peer) (told : Option Heard) : Type 0 where
  pub looks : LooksAt peer old.broken (nat_lt 0 (length old.unsent)) old new told

-- What a wait is to look for at a peer: whether it takes what is unsent, or, where nothing is, whether something came.
abbrev pub reads : Bool → ℕ → Bool
reads true count = false
reads false count = if nat_lt 0 count then false else true

abbrev pub writes : Bool → ℕ → Bool
writes true count = false
writes false count = nat_lt 0 count

abbrev pub asked_of : Peer → Asked
asked_of p = record { descriptor = p.descriptor; reads = reads p.broken (length p.unsent); writes = writes p.broken (length p.unsent) }
