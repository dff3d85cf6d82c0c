-- One server by datagrams and streams as a part of a client of several: its moves, each with what it puts out and the results that it posts.
use Rattle.std.specs.Prelude.{◌≡◌, ◌≢◌, ℕ, suc, ◌+◌, ◌<◌, ◌≤◌, max, Bool, true, false, ◌||◌, is_some, Some, List, [], ◌∷◌, Result}
use Rattle.client_request.specs.Request.{Request}
use Rattle.client_request.specs.declared.error.Error.{Error}
use Rattle.client_request.specs.declared.event.Event.{Event}
use Rattle.client_request.specs.declared.event.What.{What}
use Rattle.client_request.specs.declared.event.What.TheVariants.{Bytes, Tick}
use Rattle.client_request.specs.declared.event.Out.{Out}
use Rattle.client_request.specs.declared.event.Out.TheVariants.{OpenDgram, OpenStream, Start, Close}
use Rattle.client_request.specs.declared.event.Via.TheVariants.{Stream}
use Rattle.right_trace.specs.Time.{read_timeout, stream_timeout}
use Rattle.right_trace.specs.Messages.{Octets}
use Rattle.right_trace.specs.Trace.{Use, Conf}
use Rattle.right_trace.specs.Frames.{fed}
use Rattle.right_trace.specs.Orderly.{use_at}
use Rattle.proof_right.specs.machine.Streams.{Puts, Gives, Nothing, Asker, Conn, Multi, end_at, begin_row, fed_by, set_conn, IsForeign, TakesFrame}
use Rattle.proof_right.specs.machine.Dgrams.{Tryer, Dgrams, IsIgnored, forget}
use Rattle.proof_right.specs.machine.Server.{Server, no_request}
use Rattle.proof_right.specs.machine.Part.{Post, Act, ServerPart}
use Rattle.proof_right.specs.machine.Streams as multi
use Rattle.proof_right.specs.machine.Dgrams as dgrams
use Rattle.proof_right.specs.machine.Server as server

-- `pending` is the row's event until it is taken, and then `Tick`; `frames` are those of `place` that are still to be taken.
pub record Served : Type 0 where
  pub server : Server
  pub clock : ℕ
  pub pending : What
  pub taken : Bool
  pub place : ℕ
  pub frames : List Octets

abbrev pub unserved : Served
unserved = record { server = no_request; clock = 0; pending = Tick; taken = true; place = 0; frames = [] }

abbrev pub holds : Served → (k : ℕ) → Bool
holds u k = is_some (u.server.by_dgram.held k) || is_some (u.server.by_stream.asks k)

-- a row begins
abbrev pub row_begun : Event → Served → Served
row_begun e u = record { server = record u.server { by_stream = begin_row u.server.by_stream }; clock = max e.moment.0 u.clock; pending = e.what; taken = false; place = 0; frames = [] }

-- the next place after an out
abbrev pub next_after : Out → ℕ → ℕ
next_after (OpenDgram p s) n = suc n
next_after (OpenStream p s) n = suc n
next_after _ n = n

abbrev pub place_after : multi.Act → ℕ → ℕ
place_after (Puts o) n = next_after o n
place_after (Gives k x) n = n
place_after Nothing n = n

abbrev pub outs_of : multi.Act → List Out
outs_of (Puts o) = o ∷ []
outs_of (Gives k x) = []
outs_of Nothing = []

abbrev pub posts_of : multi.Act → List Post
posts_of (Puts o) = []
posts_of (Gives k x) = record { request = k; result = x } ∷ []
posts_of Nothing = []

-- what a small move makes
abbrev pub does : Served → (n : ℕ) → multi.Act → Act Served
does u n x = record { state = u; place = place_after x n; outs = outs_of x; posts = posts_of x }

abbrev pub has_moved : Server → Served → Served
has_moved v u = record u { server = v }

abbrev pub has_taken_it : Server → Served → Served
has_taken_it v u = record u { server = v; pending = Tick; taken = true; frames = [] }

abbrev pub reads_at : (p : ℕ) → List Octets → Multi → Served → Served
reads_at p fs m u = record u { server = record u.server { by_stream = m }; pending = Tick; taken = true; place = p; frames = fs }

abbrev pub frames_left : List Octets → Multi → Served → Served
frames_left fs m u = record u { server = record u.server { by_stream = m }; frames = fs }

-- no request has a result that is to be given
abbrev pub IsSettled : Dgrams → Type 0
IsSettled d = (k : ℕ) (a : Tryer) → d.held k ≡ Some a → (x : Result Octets Error) → a.stage ≢ dgrams.Ending x

-- What follows at once when a request's place is closed: nothing, or its result.
pub data Settles (s n next : ℕ) (u : Served) (x : multi.Act) : Act Served → Type 0 where
  AsItIs : IsSettled u.server.by_dgram → Settles s n next u x (does u next x)
  WithResult : (k : ℕ) (a : Tryer) (y : Result Octets Error) → u.server.by_dgram.held k ≡ Some a → a.stage ≡ dgrams.Ending y → Settles s n next u x (record { state = has_moved (record u.server { by_dgram = forget k u.server.by_dgram }) u; place = place_after x next; outs = outs_of x; posts = record { request = k; result = y } ∷ [] })

-- no request is at one of its timeouts
pub record IsInTime (c : Conf) (n : ℕ) (v : Server) : Type 0 where
  pub sent : (k : ℕ) (a : Tryer) (p id t : ℕ) → v.by_dgram.held k ≡ Some a → a.stage ≡ dgrams.Sent p id t → n < t + read_timeout c
  pub asked : (k : ℕ) (a : Asker) → v.by_stream.asks k ≡ Some a → n < a.since + stream_timeout c

-- A move of its own: a timer or what is owed; the event, once no request is at its timeout; a frame.
pub data Acts (c : Conf) (s next : ℕ) (u : Served) : Act Served → Type 0 where
  ByDgram : (x : multi.Act) (d : Dgrams) (a : Act Served) → dgrams.Tries c s u.clock next u.server.by_dgram x d → Settles s u.clock next (has_moved (record u.server { by_dgram = d }) u) x a → Acts c s next u a
  ByStream : (x : multi.Act) (m : Multi) → multi.Moves c s u.clock next u.server.by_stream x m → Acts c s next u (does (has_moved (record u.server { by_stream = m }) u) next x)
  -- a request whose answer was cut goes on by stream, before the row ends
  FallsBack : (k : ℕ) (a : Tryer) → u.server.by_dgram.held k ≡ Some a → a.stage ≡ dgrams.Cut → Acts c s next u (does (has_moved (server.falls_back k u.clock a u.server) u) next (Puts (Start k s Stream)))
  TellsDgrams : (x : multi.Act) (d : Dgrams) (a : Act Served) → u.taken ≡ false → IsInTime c u.clock u.server → dgrams.Meets c u.clock u.server.by_dgram u.pending x d → IsForeign u.pending u.server.by_stream → Settles s u.clock next (has_taken_it (record u.server { by_dgram = d }) u) x a → Acts c s next u a
  TellsStreams : (x : multi.Act) (m : Multi) → u.taken ≡ false → ((p : ℕ) (o : Octets) → u.pending ≢ Bytes p o) → multi.Takes c u.clock u.server.by_stream u.pending x m → IsIgnored c u.pending u.server.by_dgram → Acts c s next u (does (has_taken_it (record u.server { by_stream = m }) u) next x)
  Reads : (p : ℕ) (o : Octets) (x : Conn) → u.taken ≡ false → u.pending ≡ Bytes p o → u.server.by_stream.conns p ≡ Some x → Acts c s next u (does (reads_at p (fed x.got o).frames (set_conn p (fed_by o x) u.server.by_stream) u) next Nothing)
  TakesOne : (f : Octets) (fs : List Octets) (x : multi.Act) (m : Multi) → u.frames ≡ f ∷ fs → IsInTime c u.clock u.server → TakesFrame u.clock u.place f u.server.by_stream x m → Acts c s next u (does (frames_left fs m u) next x)
  -- an answer that says an idle time of 0: the place is closed first, and the frames behind it are dropped
  ClosesFirst : (f : Octets) (fs : List Octets) (k : ℕ) (y : Result Octets Error) (m : Multi) (x : Conn) (since : ℕ) → u.frames ≡ f ∷ fs → IsInTime c u.clock u.server → TakesFrame u.clock u.place f u.server.by_stream (Gives k y) m → m.conns u.place ≡ Some x → x.mode ≡ multi.Idle since → since + x.idle ≤ u.clock
      → ((j : ℕ) (a : Asker) → m.asks j ≡ Some a → a.phase ≡ multi.Lined u.place → 0 < x.left)
      → Acts c s next u (record { state = frames_left [] (end_at u.place m) u; place = next; outs = Close u.place ∷ []; posts = record { request = k; result = y } ∷ [] })

-- a request is handed to it
pub data Starts (c : Conf) (s next k : ℕ) (r : Request) (u : Served) : Act Served → Type 0 where
  IsHanded : (how : Use) (x : multi.Act) (v : Server) → use_at s c.servers ≡ Some how → server.IsHanded how s u.clock k r u.server x v → Starts c s next k r u (does (has_moved v u) next x)

-- a request is given up
pub data Cancels (s next k : ℕ) (u : Served) : Act Served → Type 0 where
  IsGivenUp : (x : multi.Act) (v : Server) → server.IsGivenUp s u.clock k u.server x v → Cancels s next k u (does (has_moved v u) next x)

-- Nothing is due, nothing is owed, all frames are taken, and the event is taken or names no place of its own.
pub record RestsNow (c : Conf) (u : Served) : Type 0 where
  pub rests : server.Rests c u.clock u.server
  pub frames : u.frames ≡ []
  pub ignored : IsIgnored c u.pending u.server.by_dgram
  pub foreign : IsForeign u.pending u.server.by_stream

-- One server by datagrams and streams, as a part of a client.
abbrev pub served : (c : Conf) → ServerPart c
served c = record { State = Served; fresh = unserved; holds = holds; begin = row_begun; Acts = Acts c; Starts = Starts c; Cancels = Cancels; Rests = RestsNow c }
