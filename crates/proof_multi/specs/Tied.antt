-- A server by streams alone, as a part of a client: its tables beside the part of the machine, and what it leaves alone.
use Rattle.std.specs.Prelude.{◌≡◌, ℕ, ◌⊎◌, ◌==◌, false, if◌then◌else◌, List, [], length, Option, Some}
use Rattle.client_request.specs.Request.{Request}
use Rattle.client_request.specs.Requests.{for_one}
use Rattle.client_request.specs.View.{Transport}
use Rattle.client_request.specs.declared.event.Via.TheVariants.{Stream}
use Rattle.client_request.specs.declared.event.What.{What}
use Rattle.client_stream.specs.Plain.{Asked}
use Rattle.client_multi.specs.Links.{Link, one_stream}
use Rattle.client_multi.specs.MultiStream.{MultiStream, started, transport}
use Rattle.right_settings.specs.Given.{streams_of}
use Rattle.right_trace.specs.Messages.{Octets}
use Rattle.right_trace.specs.Orderly.{use_at}
use Rattle.right_trace.specs.Trace.{Conf, ByStreams}
use Rattle.proof_right.specs.machine.Dgrams.{no_datagram}
use Rattle.proof_right.specs.machine.Served.{Served, served}
use Rattle.proof_right.specs.machine.Streams.{IsForeign}
use Rattle.proof_parts.specs.PartTie.{Phase, Untold, Told, Passed, place_in, IsNobodys, IsTie}
use Rattle.proof_parts.specs.Places.{has_place}
use Rattle.proof_parts.specs.Sharing.{IsShared}
use Rattle.proof_parts.specs.Sights.{Sight, NoneDue}
use Rattle.proof_multi.specs.Servers.{Desk, desk_of, numbers, nothing_under_way, IsServer, AreOrderly, NoneHeard, Owns}

-- the whole of reconnection, over connections for requests that one message answers
abbrev pub Streams : Type 0
Streams = MultiStream Request (Link Request)

abbrev pub by_streams : Transport Request Streams Asked
by_streams = transport (one_stream for_one)

-- the frames that are to be taken at place p, and none elsewhere
abbrev pub frames_at : (p : ℕ) → List Octets → ℕ → List Octets
frames_at p fs q = if p == q then fs else []

-- It is server s, by the settings of the configuration; no datagram is under way; and its tables agree with the machine.
pub record IsStream (c : Conf) (s : ℕ) (u : Streams) (x : Sight) (a : Served) : Type 0 where
  pub server : u.server ≡ s
  pub settings : u.settings ≡ streams_of u.settings.stream.streaming_response_timeout c
  pub takes : u.shut ≡ false
  pub clock : a.clock ≡ x.now
  pub dgram : a.server.by_dgram ≡ no_datagram
  pub ties : IsServer c nothing_under_way (desk_of u.tables) a.server.by_stream (frames_at a.place a.frames) x.dues x.ticket
  pub order : AreOrderly u.tables x

-- none of its timers is due
abbrev pub AreEarly : Desk → Sight → Type 0
AreEarly d x = NoneDue (Owns d) x

-- before the event of the row is told
pub record IsUntold (c : Conf) (s : ℕ) (w : What) (u : Streams) (x : Sight) (a : Served) : Type 0 where
  pub stream : IsStream c s u x a
  pub pending : a.pending ≡ w
  pub taken : a.taken ≡ false
  pub frames : a.frames ≡ []
  pub quiet : NoneHeard a.server.by_stream

-- Once it was told, and so many frames of place p are left: it was taken, or is of no place here, and none of its timers is due.
pub record IsTold (c : Conf) (s p left : ℕ) (u : Streams) (x : Sight) (a : Served) : Type 0 where
  pub stream : IsStream c s u x a
  pub count : length a.frames ≡ left
  pub at : (left ≡ 0) ⊎ (a.place ≡ p)
  pub row : (left ≡ 0) ⊎ IsNobodys a.pending
  pub told : AreEarly (desk_of u.tables) x × IsForeign a.pending a.server.by_stream

-- Once an event was told that is of no place here: all is as before, and none of its timers is due.
pub record IsPassed (c : Conf) (s : ℕ) (w : What) (u : Streams) (x : Sight) (a : Served) : Type 0 where
  pub untold : IsUntold c s w u x a
  pub early : AreEarly (desk_of u.tables) x
  pub apart : (p : ℕ) → place_in w ≡ Some p → has_place a p ≡ false

-- server s, by where a row is
abbrev pub TiedAs : (c : Conf) (s : ℕ) → Phase → Streams → Sight → Served → Type 0
TiedAs c s (Untold w) u x a = IsUntold c s w u x a
TiedAs c s (Told p left) u x a = IsTold c s p left u x a
TiedAs c s (Passed w) u x a = IsPassed c s w u x a

abbrev pub names_of : Streams → ℕ → Option ℕ
names_of u = numbers (desk_of u.tables)

abbrev pub owns : Streams → (timer : ℕ) → Type 0
owns u i = Owns (desk_of u.tables) i

-- Reconnection is tied to the part of each server that is used by streams alone, whatever time it has for messages of transfers.
abbrev pub StreamsAreTiedAs : Type 0
StreamsAreTiedAs = (c : Conf) (s several : ℕ) → use_at s c.servers ≡ Some ByStreams → IsTie (served c) s Stream by_streams (λ (r : Asked). r.ticket) (started s (streams_of several c)) (TiedAs c s) names_of owns

-- Where servers share timers, places and the board, it leaves alone what is not its own.
abbrev pub StreamsAreShared : Type 0
StreamsAreShared = (c : Conf) (s : ℕ) → IsShared (served c) has_place by_streams (TiedAs c s) owns
