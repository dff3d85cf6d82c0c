-- One server as a part of a client: datagrams with fallback to streams, or streams alone. It puts things out, and gives results for requests to the part above; it is told what happens, is handed requests, and may be told to give one up.
use Rattle.std.specs.Prelude.{◌≡◌, ◌≢◌, ℕ, ◌+◌, ◌<◌, ◌≤◌, ◌⊎◌, Some, None, Result, Err}
use Rattle.client_request.specs.Request.{Request}
use Rattle.client_request.specs.declared.error.Error.{Error}
use Rattle.client_request.specs.declared.event.What.{What}
use Rattle.client_request.specs.declared.event.Out.TheVariants.{Start, Close}
use Rattle.client_request.specs.declared.event.Via.TheVariants.{Dgram, Stream}
use Rattle.right_trace.specs.Time.{read_timeout, response_timeout, stream_timeout, max_places}
use Rattle.right_trace.specs.Messages.{Octets}
use Rattle.right_trace.specs.Trace.{Conf, Use, ByDatagrams, ByStreams}
use Rattle.proof_right.specs.machine.Streams.{Act, Puts, Nothing, Asker, Active, Idle, Conn, Multi, drop, no_connection, Moves, Takes, IsForeign}
use Rattle.right_trace.specs.Updates.{with_at}
use Rattle.proof_right.specs.machine.Dgrams.{Tryer, Dgrams, no_datagram, leave, forget, Tries, Meets, IsIgnored}
use Rattle.client_request.specs.declared.error.Error.TheVariants as errors
use Rattle.proof_right.specs.machine.Streams as multi
use Rattle.proof_right.specs.machine.Dgrams as dgrams

-- its two transports
pub record Server : Type 0 where
  pub by_dgram : Dgrams
  pub by_stream : Multi

abbrev pub no_request : Server
no_request = record { by_dgram = no_datagram; by_stream = no_connection }

-- it has request k, without a result
abbrev pub Has : Server → (k : ℕ) → Type 0
Has v k = ((a : Tryer) × (v.by_dgram.held k ≡ Some a)) ⊎ ((a : Asker) × (v.by_stream.asks k ≡ Some a))

-- a request whose answer was cut goes on by stream, from moment n on
abbrev pub falls_back : (k n : ℕ) → Tryer → Server → Server
falls_back k n a v = record { by_dgram = forget k v.by_dgram; by_stream = record v.by_stream { asks = with_at k (Some (record { request = a.request; since = n; phase = multi.Free })) v.by_stream.asks } }

-- Moves at any time: of server s, at moment n, `next` being the next place.
pub data Goes (c : Conf) (s n next : ℕ) (v : Server) : Act → Server → Type 0 where
  ByDgram : (x : Act) (d : Dgrams) → Tries c s n next v.by_dgram x d → Goes c s n next v x (record v { by_dgram = d })
  ByStream : (x : Act) (m : Multi) → Moves c s n next v.by_stream x m → Goes c s n next v x (record v { by_stream = m })
  -- a cut answer: the request goes on by stream
  FallsBack : (k : ℕ) (a : Tryer) → v.by_dgram.held k ≡ Some a → a.stage ≡ dgrams.Cut → Goes c s n next v (Puts (Start k s Stream)) (falls_back k n a v)

-- Calls from above: request k, which is r, is handed in, or given up.
pub data IsHanded (u : Use) (s n k : ℕ) (r : Request) (v : Server) : Act → Server → Type 0 where
  ToDgrams : u ≡ ByDatagrams → v.by_dgram.held k ≡ None → IsHanded u s n k r v (Puts (Start k s Dgram)) (record v { by_dgram = record v.by_dgram { held = with_at k (Some (record { request = r; tries = 0; stage = dgrams.Queued })) v.by_dgram.held } })
  ToStreams : u ≡ ByStreams → v.by_stream.asks k ≡ None → IsHanded u s n k r v (Puts (Start k s Stream)) (record v { by_stream = record v.by_stream { asks = with_at k (Some (record { request = r; since = n; phase = multi.Free })) v.by_stream.asks } })

pub data IsGivenUp (s n k : ℕ) (v : Server) : Act → Server → Type 0 where
  Waits : (a : Tryer) → v.by_dgram.held k ≡ Some a → a.stage ≡ dgrams.Queued → IsGivenUp s n k v Nothing (record v { by_dgram = forget k v.by_dgram })
  HasPlace : (a : Tryer) (p : ℕ) → v.by_dgram.held k ≡ Some a → (a.stage ≡ dgrams.Trying p) ⊎ ((id : ℕ) × (t : ℕ) × (a.stage ≡ dgrams.Sent p id t)) → IsGivenUp s n k v (Puts (Close p)) (record v { by_dgram = forget k (leave p k a (dgrams.Ending (Err errors.TimedOut)) v.by_dgram) })
  AtStreams : v.by_dgram.held k ≡ None → IsGivenUp s n k v Nothing (record v { by_stream = drop k v.by_stream })

-- What an event does at moment n, but for frames.
pub data IsTold (c : Conf) (n : ℕ) (v : Server) (w : What) : Act → Server → Type 0 where
  TellsDgrams : (x : Act) (d : Dgrams) → Meets c n v.by_dgram w x d → IsForeign w v.by_stream → IsTold c n v w x (record v { by_dgram = d })
  TellsStreams : (x : Act) (m : Multi) → Takes c n v.by_stream w x m → IsIgnored c w v.by_dgram → IsTold c n v w x (record v { by_stream = m })
  TellsNobody : IsIgnored c w v.by_dgram → IsForeign w v.by_stream → IsTold c n v w Nothing v

-- Nothing is due and nothing owed: the server rests at moment n.
pub record Rests (c : Conf) (n : ℕ) (v : Server) : Type 0 where
  pub waiting : (k : ℕ) (a : Tryer) → v.by_dgram.held k ≡ Some a → a.stage ≡ dgrams.Queued → v.by_dgram.used ≡ max_places c
  pub reading : (k : ℕ) (a : Tryer) (p id t : ℕ) → v.by_dgram.held k ≡ Some a → a.stage ≡ dgrams.Sent p id t → n < t + read_timeout c
  pub ending : (k : ℕ) (a : Tryer) (x : Result Octets Error) → v.by_dgram.held k ≡ Some a → a.stage ≢ dgrams.Ending x
  pub cut : (k : ℕ) (a : Tryer) → v.by_dgram.held k ≡ Some a → a.stage ≢ dgrams.Cut
  pub free : (k : ℕ) (a : Asker) → v.by_stream.asks k ≡ Some a → a.phase ≢ multi.Free
  pub broken : (k : ℕ) (a : Asker) → v.by_stream.asks k ≡ Some a → a.phase ≢ multi.Broken
  pub lined : (k : ℕ) (a : Asker) (p : ℕ) (x : Conn) → v.by_stream.asks k ≡ Some a → a.phase ≡ multi.Lined p → v.by_stream.conns p ≡ Some x → 0 < x.left
  pub backing : (k : ℕ) (a : Asker) (until : ℕ) → v.by_stream.asks k ≡ Some a → a.phase ≡ multi.BackingOff until → n < until
  pub silent : (k : ℕ) (a : Asker) → v.by_stream.asks k ≡ Some a → n < a.since + stream_timeout c
  pub quiet : (p : ℕ) (x : Conn) (since : ℕ) → v.by_stream.conns p ≡ Some x → x.mode ≡ Active since → n ≤ since + response_timeout c
  pub idle : (p : ℕ) (x : Conn) (since : ℕ) → v.by_stream.conns p ≡ Some x → x.mode ≡ Idle since → n < since + x.idle
