-- A fallback over datagrams and streams that are tied, as a part of a client.
use Rattle.std.specs.Prelude.{◌≡◌, ℕ, ◌<◌, ◌⊎◌, true, false, is_some, [], Option, Some, None}
use Rattle.client_request.specs.Carries.{IsOfOctets}
use Rattle.client_request.specs.Request.{Request}
use Rattle.client_request.specs.View.{View, Transport, told, asks}
use Rattle.client_request.specs.declared.event.Out.TheVariants.{Start}
use Rattle.client_request.specs.declared.event.Via.TheVariants.{Stream}
use Rattle.client_request.specs.declared.event.What.{What}
use Rattle.client_dgram.specs.Plain as dgram
use Rattle.right_settings.specs.Given.{dgrams_of}
use Rattle.client_stream.specs.Plain as stream
use Rattle.client_multi.specs.Fallback.{Fallback}
use Rattle.right_trace.specs.Orderly.{use_at}
use Rattle.right_trace.specs.Trace.{Conf, ByStreams}
use Rattle.proof_right.specs.machine.Dgrams.{no_datagram, IsIgnored}
use Rattle.proof_right.specs.machine.Served.{Served, served, holds, has_taken_it}
use Rattle.proof_right.specs.machine.Streams.{IsForeign}
use Rattle.proof_parts.specs.PartTie.{Phase, Untold, Told, Passed, WasTold, Leads, IsTie}
use Rattle.proof_parts.specs.Places.{has_place}
use Rattle.proof_parts.specs.Sharing.{IsShared}
use Rattle.proof_parts.specs.Sights.{Sight, sight, IsFair, NoneDue}
use Rattle.proof_dgram.specs.AtServer.{with_dgrams}
use Rattle.proof_dgram.specs.Calls as dgrams
use Rattle.proof_dgram.specs.Halves.{IsByStreams}
use Rattle.proof_dgram.specs.Slots.{AreSlots, names_of}
use Rattle.proof_dgram.specs.Waiting.{AreWaiting, numbers_of, ticket_at}

-- the event of the row, where it was not taken
abbrev pub pending_in : Phase → Option What
pending_in (Untold w) = Some w
pending_in (Told p left) = None
pending_in (Passed w) = Some w

-- The streams of server s are tied to the part of a server by streams alone, and leave alone what is none of theirs.
pub record AreStreams (b : Conf) (s : ℕ) {S : Type 0} (t : Transport Request S stream.Asked) (first : S) (Tied : Phase → S → Sight → Served → Type 0) (names : S → ℕ → Option ℕ) (Owns : S → (timer : ℕ) → Type 0) : Type 0 where
  pub used : use_at s b.servers ≡ Some ByStreams
  pub tie : IsTie (served b) s Stream t ticket_at first Tied names Owns
  pub shared : IsShared (served b) has_place t Tied Owns
  pub alone : (phase : Phase) (u : S) (x : Sight) (a : Served) → Tied phase u x a → IsByStreams a
  pub clock : (phase : Phase) (u : S) (x : Sight) (a : Served) → Tied phase u x a → a.clock ≡ x.now
  pub pending : (phase : Phase) (w : What) (u : S) (x : Sight) (a : Served) → pending_in phase ≡ Some w → Tied phase u x a → (a.pending ≡ w) × (a.taken ≡ false) × (a.frames ≡ [])
  pub opening : (phase : Phase) (u : S) (x : Sight) (a : Served) (p : ℕ) → Tied phase u x a → a.server.by_stream.opening ≡ Some p → p < x.place
  -- an event that is the datagrams' is nothing to them
  pub foreign : (w : What) (u : S) (v : View) (a : Served) → Tied (Untold w) u (sight v) a → IsForeign w a.server.by_stream → t.step (told w) u v ≡ Some (u, v)
  pub taken : (w : What) (u : S) (x : Sight) (a : Served) → NoneDue (Owns u) x → Tied (Untold w) u x a → IsForeign w a.server.by_stream → Tied (Told 0 0) u x (has_taken_it a.server a)
  -- where a request is taken on, a ticket is drawn, and no frame is told of
  pub drawn : (u : S) (v : View) (a : Served) (w : What) (r : Request) → Tied (Untold w) u (sight v) a → IsFair v → IsOfOctets r → holds a v.request ≡ false → Leads (λ x y. (v.ticket < y.ticket) × (y.more ≡ v.more)) (t.send r u (asks (Start v.request s Stream) v))

-- once it was told, the event is nothing to the datagrams any more
abbrev pub IsOver : (c : Conf) → Phase → Served → Type 0
IsOver c (Untold w) a = Unit {0}
IsOver c (Told p left) a = IsIgnored c a.pending a.server.by_dgram
IsOver c (Passed w) a = IsIgnored c w a.server.by_dgram

module _ (c : Conf) {S : Type 0} (Tied : Phase → S → Sight → Served → Type 0) (names : S → ℕ → Option ℕ) (Owns : S → (timer : ℕ) → Type 0) (s : ℕ) where
  abbrev pub Both : Type 0
  Both = Fallback Request (dgram.Dgram Request) S dgram.Asked stream.Asked

  -- Its two transports are tied, each to its half of the server, and its tables have those who wait for them.
  pub record IsFallback (phase : Phase) (f : Both) (x : Sight) (a : Served) : Type 0 where
    pub server : f.server ≡ s
    pub dgram_server : f.parts.dgram.server ≡ s
    pub settings : f.parts.dgram.settings ≡ dgrams_of c
    pub slots : AreSlots c 0 f.parts.dgram.tables a.server.by_dgram x
    pub streams : Tied phase f.parts.stream x (with_dgrams no_datagram a)
    pub waiting : AreWaiting ticket_at f.parts.tables a.server.by_dgram (names_of f.parts.dgram.tables) (names f.parts.stream) x.ticket
    pub timers : (i : ℕ) → dgrams.Owns f.parts.dgram.tables i → Owns f.parts.stream i → ⊥
    pub places : (p k : ℕ) → a.server.by_dgram.at p ≡ Some k → a.server.by_stream.opening ≡ Some p → ⊥
    pub apart : (k : ℕ) → is_some (a.server.by_dgram.held k) ≡ true → is_some (a.server.by_stream.asks k) ≡ true → ⊥
    pub over : IsOver c phase a
    -- once the event was told, none of the datagrams' timers is due
    pub quiet : WasTold phase → NoneDue (dgrams.Owns f.parts.dgram.tables) x

  abbrev pub names_in : Both → ℕ → Option ℕ
  names_in f = numbers_of f.parts.tables (names f.parts.stream)

  abbrev pub OwnsEither : Both → (timer : ℕ) → Type 0
  OwnsEither f i = dgrams.Owns f.parts.dgram.tables i ⊎ Owns f.parts.stream i
