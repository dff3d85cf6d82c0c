-- A socket for datagrams that receives, and sends, many one behind another.
use Rattle.std.specs.Prelude.{◌≡◌, ◌+◌, ◌<◌, ◌≤◌, ℕ, suc, Bool, true, false, List, [], ◌∷◌, ◌++◌, length, Option, None, Some}
use Rattle.client_request.specs.declared.fault.Fault.{Fault}
use Rattle.dns_values.specs.declared.address.SocketAddr.{SocketAddr}
use Rattle.socket_places.specs.declared.socket.Answer.{Answer}
use Rattle.socket_places.specs.declared.socket.Answer.TheVariants.{Done, Failed, Later}
use Rattle.socket_places.specs.Told.{after_one}
use Rattle.listener_peers.specs.declared.batch.Outgoing.{Outgoing}
use Rattle.listener_peers.specs.declared.listener.Letter.{Letter}
use Rattle.listener_peers.specs.declared.listener.Post.{Post}
use Rattle.listener_peers.specs.declared.listener.Post.TheVariants.{Came, Went}

-- What was done with the socket; what it gave that was not handed on yet, and why it gave no more, if that was a fault; whether whoever asks was not told yet that there
-- are no more; and what is not sent yet.
pub record Batch : Type 0 where
  pub posts : Option (List Post)
  pub came : List Letter
  pub fault : Option Fault
  pub gives : Bool
  pub unsent : List Outgoing

-- a datagram that the socket gave stands behind those before it, and a fault is kept
abbrev pub taken : Answer Letter → Batch → Batch
taken (Done letter) b = record b { came = b.came ++ letter ∷ [] }
taken (Failed fault) b = record b { fault = Some fault }
taken Later b = b

abbrev pub is_letter : Answer Letter → Bool
is_letter (Done letter) = true
is_letter (Failed fault) = false
is_letter Later = false

-- the most datagrams that are received, or sent, one behind another
abbrev pub at_once : ℕ
at_once = 32

-- The socket was asked for a datagram once, and gave one or not.
pub record ReceivesOne (old new : Batch) (more : Bool) : Type 0 where
  pub answer : Answer Letter
  pub after : new ≡ taken answer (record old { posts = after_one (Came answer) old.posts })
  pub more_is : more ≡ is_letter answer

-- The socket was asked for datagrams until it gave none, so often at most, and what it gave stands in order.
pub data Receives : (most : ℕ) → (old new : Batch) → Type 0 where
  asked_enough : (b : Batch) → Receives 0 b b
  gave_none : (most : ℕ) (old new : Batch) → ReceivesOne old new false → Receives (suc most) old new
  gave_one : (most : ℕ) (old next new : Batch) → ReceivesOne old next true → Receives most next new → Receives (suc most) old new

-- These were sent in order, whatever the socket answered.
pub data SendsAll : List Outgoing → (old new : Option (List Post)) → Type 0 where
  sent_none : (posts : Option (List Post)) → SendsAll [] posts posts
  sent_next : (next : Outgoing) (more : List Outgoing) (answer : Answer ℕ) (old new : Option (List Post)) → SendsAll more (after_one (Went next.to next.octets answer) old) new →
      SendsAll (next ∷ more) old new

-- There are no more for now: what was not sent is sent, and it is told why, if that was a fault.
abbrev pub end_of : Option Fault → Answer Letter
end_of None = Later
end_of (Some fault) = Failed fault

pub record Ends (old new : Batch) (answer : Answer Letter) : Type 0 where
  pub sent : SendsAll old.unsent old.posts new.posts
  pub after : new ≡ record old { posts = new.posts; unsent = []; fault = None; gives = false }
  pub answer_is : answer ≡ end_of old.fault

-- What came first is given, or it is told that there are no more.
abbrev pub GivesFirst : List Letter → (old new : Batch) → Answer Letter → Type 0
GivesFirst [] old new answer = Ends old new answer
GivesFirst (letter ∷ more) old new answer = (new ≡ record old { came = more }) × (answer ≡ Done letter)

-- Datagrams are received where whoever asks was told that there are no more.
abbrev pub Fills : (gives : Bool) → (old new : Batch) → Type 0
Fills true old new = new ≡ old
Fills false old new = Receives at_once (record old { gives = true }) new

pub record GivesNext (old new : Batch) (answer : Answer Letter) : Type 0 where
  pub filled : Batch
  pub fills : Fills old.gives old filled
  pub first : GivesFirst filled.came filled new answer

-- A datagram stands behind those that are not sent yet; where these are as many as are sent one behind another, all are sent.
pub data Puts (out : Outgoing) (old new : Batch) : Type 0 where
  stands : length old.unsent + 1 < at_once → new ≡ record old { unsent = old.unsent ++ out ∷ [] } → Puts out old new
  all_sent : at_once ≤ length old.unsent + 1 → SendsAll (old.unsent ++ out ∷ []) old.posts new.posts → new ≡ record old { posts = new.posts; unsent = [] } → Puts out old new

-- It is sent at once where nothing is given, and else it is put with the others.
pub record PutsAnother (to : SocketAddr) (octets : List ℕ) (old new : Batch) : Type 0 where
  pub out : Outgoing
  pub to_is : out.to ≡ to
  pub octets_are : out.octets ≡ octets
  pub puts : Puts out old new

abbrev pub TakesIf : (gives : Bool) → SocketAddr → (octets : List ℕ) → (old new : Batch) → Answer ℕ → Type 0
TakesIf true to octets old new answer = PutsAnother to octets old new × (answer ≡ Done (length octets))
TakesIf false to octets old new answer = new ≡ record old { posts = after_one (Went to octets answer) old.posts }
