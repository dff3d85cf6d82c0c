-- The plain machine of a server that is asked by datagrams, and by a stream where a datagram was truncated, over any two transports.
--
--   send ──► Dgram ──whole message, error──────────────────────────► result
--              │                                                       ▲
--              └──truncated message: Start──► Stream ──its result─────┘
--
-- What a transport below posts stands on a board of its own for the call. It is settled once both have heard: that of the datagrams first.
use Rattle.std.specs.Prelude.{ℕ, ◌||◌, Bool, true, false, List, [], ◌∷◌, Option, Some, None, option_map, option_and_then, Result, Ok, Err}
use Rattle.dns_base.specs.Answering.{truncated}
use Rattle.client_request.specs.Board.{Part, posted}
use Rattle.client_request.specs.Calls.{Holds}
use Rattle.client_request.specs.Numbered.{puts, frees, entry_at}
use Rattle.client_request.specs.Response as response
use Rattle.client_request.specs.View.{View, Heard, Transport, asks, answers, draws_ticket}
use Rattle.client_request.specs.declared.board.Posted.{Posted}
use Rattle.client_request.specs.declared.cx.Cx.{Cx}
use Rattle.client_request.specs.declared.error.Error.{Error}
use Rattle.client_request.specs.declared.event.Out.TheVariants.{Start}
use Rattle.client_request.specs.declared.event.Via.TheVariants as via
use Rattle.client_multi.specs.declared.dgram_stream.job.Job.{Job}
use Rattle.client_multi.specs.declared.dgram_stream.job.Job.TheVariants.{Dgram, Stream}

-- The requests that wait by ticket, and the ticket of each by that under which its result comes from below.
pub record Tables (R P Q : Type 0) : Type 0 where
  pub jobs : List (ℕ × Job R P Q)
  pub tickets : List (ℕ × ℕ)

-- Both transports, and the requests that wait for them.
pub record Parts (R D S P Q : Type 0) : Type 0 where
  pub dgram : D
  pub stream : S
  pub tables : Tables R P Q

-- what a step leaves of the parts and of the view; and of what the stream posted too
abbrev pub After : (R D S P Q : Type 0) → Type 0
After R D S P Q = Option (Parts R D S P Q × View)

abbrev pub Settling : (R D S P Q : Type 0) → Type 0
Settling R D S P Q = Option ((Parts R D S P Q × List Posted) × View)

-- a message came that has not all that there is
abbrev pub is_truncated : Part → Bool
is_truncated (Ok (Some message)) = truncated message
is_truncated (Ok None) = false
is_truncated (Err error) = false

-- a view with another board
abbrev pub onto : List Posted → View → View
onto board v = record v { board = board }

-- the request of a number goes to the server by a stream
abbrev pub starts : (server number : ℕ) → View → View
starts server number v = record (asks (Start number server via.Stream) v) { request = number }

module _ {R P Q : Type 0} where
  abbrev pub fresh : Tables R P Q
  fresh = record { jobs = []; tickets = [] }

  abbrev pub lower_of : Job R P Q → ℕ
  lower_of (Dgram lower number request response) = lower
  lower_of (Stream lower response) = lower

  -- a request waits
  abbrev pub admits : ℕ → Job R P Q → Tables R P Q → Tables R P Q
  admits ticket job t = record { jobs = puts ticket job t.jobs; tickets = puts (lower_of job) ticket t.tickets }

  -- the request whose result came under a ticket from below, with its own ticket; and the tables without it
  abbrev pub waiting_at : Tables R P Q → Option ℕ → Option (ℕ × Job R P Q)
  waiting_at t None = None
  waiting_at t (Some ticket) = option_map (λ job. (ticket, job)) (entry_at ticket t.jobs)

  abbrev pub waiting_below : ℕ → Tables R P Q → Option (ℕ × Job R P Q)
  waiting_below lower t = waiting_at t (entry_at lower t.tickets)

  abbrev pub without_at : Option ℕ → Tables R P Q → Tables R P Q
  without_at None t = t
  without_at (Some ticket) t = record t { jobs = frees ticket t.jobs }

  abbrev pub without_below : ℕ → Tables R P Q → Tables R P Q
  without_below lower t = without_at (entry_at lower t.tickets) (record t { tickets = frees lower t.tickets })

  -- the tables without a request
  abbrev pub without_job : Option (Job R P Q) → Tables R P Q → Tables R P Q
  without_job None t = t
  without_job (Some job) t = record t { tickets = frees (lower_of job) t.tickets }

  abbrev pub without : ℕ → Tables R P Q → Tables R P Q
  without ticket t = without_job (entry_at ticket t.jobs) (record t { jobs = frees ticket t.jobs })

  -- What the stream posted is a result.
  abbrev pub gives_at : Part → Tables R P Q → List Posted → Option (ℕ × Job R P Q) → Tables R P Q × List Posted
  gives_at part t board None = (t, board)
  gives_at part t board (Some waiting) = (t, posted waiting.0 part board)

  abbrev pub gives : Posted → Tables R P Q → List Posted → Tables R P Q × List Posted
  gives p t board = gives_at p.part (without_below p.ticket t) board (waiting_below p.ticket t)

  abbrev pub gives_all : List Posted → Tables R P Q → List Posted → Tables R P Q × List Posted
  gives_all [] t board = (t, board)
  gives_all (p ∷ more) t board = gives_all more (gives p t board).0 (gives p t board).1

module _ {R D S P Q : Type 0} where
  abbrev pub with_tables : Tables R P Q → Parts R D S P Q → Parts R D S P Q
  with_tables t s = record s { tables = t }

  -- whether one of the transports gave up
  abbrev pub holds_below : (D → Bool) → (S → Bool) → Parts R D S P Q → Bool
  holds_below by_dgram by_stream s = by_dgram s.dgram || by_stream s.stream

module _ {R D S P Q : Type 0} (server : ℕ) (stream : Transport R S Q) where
  -- A request whose datagram was truncated goes to the stream.
  abbrev pub follows_at : ℕ → R → Parts R D S P Q → View → View → Option (S × View) → Settling R D S P Q
  follows_at ticket request s v w None = None
  follows_at ticket request s v w (Some after) = Some (
    (
      record s {
        stream = after.0;
        tables = admits ticket (Stream v.ticket (stream.response request s.stream w)) s.tables;
      },
      after.1.board,
    ),
    onto v.board after.1,
  )

  abbrev pub follows_below : ℕ → R → Parts R D S P Q → View → View → Settling R D S P Q
  follows_below ticket request s v w = follows_at ticket request s v w (stream.send request s.stream w)

  abbrev pub follows : ℕ → ℕ → R → Parts R D S P Q → List Posted → View → Settling R D S P Q
  follows ticket number request s board v = follows_below ticket request s (starts server number v) (onto board (starts server number v))

  -- What the datagrams posted is a result; a request whose datagram was truncated goes to the stream.
  abbrev pub settles_whole : ℕ → ℕ → R → Part → Parts R D S P Q → List Posted → View → (is_cut : Bool) → Settling R D S P Q
  settles_whole ticket number request part s board v true = follows ticket number request s board v
  settles_whole ticket number request part s board v false = Some ((s, board), answers ticket part v)

  abbrev pub settles_job : ℕ → Part → Parts R D S P Q → List Posted → View → Job R P Q → Settling R D S P Q
  settles_job ticket part s board v (Dgram lower number request response) = settles_whole ticket number request part s board v (is_truncated part)
  settles_job ticket part s board v (Stream lower response) = Some ((s, board), answers ticket part v)

  abbrev pub settles_at : Part → Parts R D S P Q → List Posted → View → Option (ℕ × Job R P Q) → Settling R D S P Q
  settles_at part s board v None = Some ((s, board), v)
  settles_at part s board v (Some waiting) = settles_job waiting.0 part s board v waiting.1

  abbrev pub settles : Posted → Parts R D S P Q → List Posted → View → Settling R D S P Q
  settles p s board v = settles_at p.part (with_tables (without_below p.ticket s.tables) s) board v (waiting_below p.ticket s.tables)

  abbrev pub settles_all : List Posted → Parts R D S P Q → List Posted → View → Settling R D S P Q
  settles_all [] s board v = Some ((s, board), v)
  settles_all (p ∷ more) s board v = option_and_then (λ x. settles_all more x.0.0 x.0.1 x.1) (settles p s board v)

  -- What was posted below is settled: that of the datagrams first.
  abbrev pub gives_rest : List Posted → Parts R D S P Q → View → Parts R D S P Q × View
  gives_rest board s v = (with_tables (gives_all board s.tables v.board).0 s, onto (gives_all board s.tables v.board).1 v)

  abbrev pub collects : (from_dgram from_stream : List Posted) → Parts R D S P Q → View → After R D S P Q
  collects from_dgram from_stream s v = option_map (λ x. gives_rest x.0.1 x.0.0 x.1) (settles_all from_dgram s from_stream v)

module _ {R D S P Q : Type 0} (server : ℕ) (dgram : Transport R D P) (stream : Transport R S Q) where
  -- What a call of the datagrams, or of the stream, leaves is settled. `v` is the view before it.
  abbrev pub settles_dgram : Parts R D S P Q → View → D × View → After R D S P Q
  settles_dgram s v x = collects server stream x.1.board [] (record s { dgram = x.0 }) (onto v.board x.1)

  abbrev pub settles_stream : List Posted → Parts R D S P Q → View → S × View → After R D S P Q
  settles_stream from_dgram s v x = collects server stream from_dgram x.1.board (record s { stream = x.0 }) (onto v.board x.1)

  -- A request is taken on: it goes to the datagrams.
  abbrev pub first_job : R → Parts R D S P Q → View → Job R P Q
  first_job request s v = Dgram v.ticket v.request request (dgram.response request s.dgram (onto [] v))

  abbrev pub takes_at : ℕ → R → Parts R D S P Q → View → After R D S P Q
  takes_at ticket request s v =
      option_and_then
      (settles_dgram (with_tables (admits ticket (first_job request s v) s.tables) s) v)
      (dgram.send request s.dgram (onto [] v))

  abbrev pub takes : R → Parts R D S P Q → View → After R D S P Q
  takes request s v = option_and_then (takes_at v.ticket request s) (draws_ticket v)

  -- Both transports hear what happened, the datagrams first.
  abbrev pub hears_stream : Heard → Parts R D S P Q → View → D × View → After R D S P Q
  hears_stream h s v x =
      option_and_then
      (settles_stream x.1.board (record s { dgram = x.0 }) (onto v.board x.1))
      (stream.step h s.stream (onto [] (onto v.board x.1)))

  abbrev pub hears : Heard → Parts R D S P Q → View → After R D S P Q
  hears h s v = option_and_then (hears_stream h s v) (dgram.step h s.dgram (onto [] v))

  -- A request is given up, where it waits.
  abbrev pub drops_at : Parts R D S P Q → View → Option (Job R P Q) → After R D S P Q
  drops_at s v None = Some (s, v)
  drops_at s v (Some (Dgram lower number request response)) =
      option_and_then (settles_dgram s v) (dgram.cancel response s.dgram (onto [] v))
  drops_at s v (Some (Stream lower response)) =
      option_and_then (settles_stream [] s v) (stream.cancel response s.stream (onto [] v))

  abbrev pub drops : ℕ → Parts R D S P Q → View → After R D S P Q
  drops ticket s v = drops_at (with_tables (without ticket s.tables) s) v (entry_at ticket s.tables.jobs)

-- the whole machine: a server's number and the parts; and whether it gave up
pub record Fallback (R D S P Q : Type 0) : Type 0 where
  pub server : ℕ
  pub parts : Parts R D S P Q
  pub failed : Bool

-- what stands for the result of a request
abbrev pub Asked : Type 0
Asked = response.Asked

module _ {R D S P Q : Type 0} where
  abbrev pub started : ℕ → D → S → Fallback R D S P Q
  started server dgram stream = record {
    server = server;
    parts = record { dgram = dgram; stream = stream; tables = fresh };
    failed = false;
  }

  abbrev pub holds_failed : (D → Bool) → (S → Bool) → Fallback R D S P Q → Bool
  holds_failed by_dgram by_stream f = f.failed || holds_below by_dgram by_stream f.parts

  abbrev pub with_parts : Fallback R D S P Q → After R D S P Q → Option (Fallback R D S P Q × View)
  with_parts f after = option_map (λ x. (record f { parts = x.0 }, x.1)) after

  abbrev pub transport : Transport R D P → Transport R S Q → Transport R (Fallback R D S P Q) Asked
  transport dgram stream = record {
    send = λ request f v. with_parts f (takes f.server dgram stream request f.parts v);
    step = λ h f v. with_parts f (hears f.server dgram stream h f.parts v);
    cancel = λ asked f v. with_parts f (drops f.server dgram stream asked.ticket f.parts v);
    response = λ request f v. record { ticket = v.ticket; given = false };
  }

module _ {W R D S P Q A L : Type 0} (by_dgram : D → Bool) (by_stream : S → Bool) where
  -- what a call that hands on to both transports owes
  abbrev pub Relays : (stream : W → ℕ → ℕ) → (old new : Cx W) → Result A Error → (View → Option (L × View)) → L → (before after : Parts R D S P Q) → Type 0
  Relays stream old new result step left before after = Holds stream old new result step left (holds_below by_dgram by_stream) before after
