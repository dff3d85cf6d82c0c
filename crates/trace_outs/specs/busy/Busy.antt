-- Whether each valid request that waits is busy.
use Rattle.std.specs.Prelude.{◌≡◌, ℕ, ◌==◌, ◌&&◌, ◌||◌, not, nat_le, nat_lt, Bool, true, false, if◌then◌else◌, length, map, List, [], ◌∷◌, Option, Some, None}
use Rattle.number_table.specs.Entries.{entry_at}
use Rattle.client_request.specs.Request.{Request}
use Rattle.client_request.specs.declared.event.Via.{Via}
use Rattle.client_request.specs.declared.event.Via.TheVariants.{Dgram, Stream}
use Rattle.right_trace.specs.{Time.max_places, Writes.Written, Right.WaitingIsBusy}
use Rattle.right_trace.specs.Trace.{History, Conf}
use Rattle.right_trace.specs.Places.{is_alive, is_opening}
use Rattle.right_trace.specs.Requests.{Asking, same_via}
use Rattle.message_judging.specs.matching.{Matching.carries_by, Shapes.same_octets}
use Rattle.trace_tables.specs.declared.places.Place.{Place}
use Rattle.trace_tables.specs.declared.requests.Started.{Started}
use Rattle.trace_tables.specs.declared.sends.Sent.{Sent}
use Rattle.trace_tables.specs.Known.{stand_of, stand_seen}
use Rattle.trace_tables.specs.Lists.{listed}
use Rattle.trace_tables.specs.Requests.{start_seen, started_seen}
use Rattle.trace_tables.specs.frames.{Frames.frames_of, Waiting.waiting_seen}
use Rattle.trace_tables.specs.frames.Ledger as ledger
use Rattle.trace_tables.specs.declared.writes.writing.Writing.{Writing}
use Rattle.trace_tables.specs.writes.Writing.{unwritten_seen}
use Rattle.trace_tables.specs.writes.Writing as writing
use Rattle.trace_points.specs.questions.{Configured.use_of, Outs.Tells}
use Rattle.trace_points.specs.exchanges.{Coming.is_young, Open.is_for}
use Rattle.trace_points.specs.exchanges.Open as open_sends
use Rattle.trace_points.specs.due.Loose.{brings_seen}
use Rattle.trace_tables.specs.sets.Sets.{Members, count_of, members, some_of}
use Rattle.trace_outs.specs.loads.Loads as loads
use Rattle.trace_outs.specs.declared.busy.waits.{Carried.Carried, Spot.Spot}
use Rattle.trace_outs.specs.declared.busy.busy.Scene.{Scene}
use Rattle.trace_outs.specs.busy.{Backs.is_within, Taken.taken_seen}
use Rattle.trace_outs.specs.busy.Backs as backs
use Rattle.trace_outs.specs.busy.Waits as waits

-- what is known behind a row
pub record Known (c : Conf) (end : History) (t : Scene) : Type 0 where
  pub ledger : ledger.Known end t.ledger.now
  pub sends : open_sends.Known c end t.sends.now
  pub writing : writing.Known end t.writing.now
  pub loads : loads.Known c end t.loads.now
  pub waits : waits.Known c end t.waits.now
  pub backs : backs.Known c end t.backs.now

-- whether octets carry the request, as it was noted, or as they are
abbrev pub is_of : Via → (id : ℕ) → List ℕ → Carried → Bool
is_of v id o y = same_via y.via v && ((y.id == id) && same_octets y.octets o)

abbrev pub carried_as : Via → (id : ℕ) → List ℕ → List Carried → Option Bool
carried_as v id o [] = None
carried_as v id o (y ∷ ys) = if is_of v id o y then Some y.carries else carried_as v id o ys

abbrev pub or_else : Option Bool → Bool → Bool
or_else None c = c
or_else (Some b) c = b

abbrev pub carries_seen : (c : Conf) → Via → Request → (k id : ℕ) → List ℕ → Scene → Bool
carries_seen c v r k id o t = or_else (carried_as v id o (listed k t.waits.now.carried)) (carries_by c.transports.dgram_udp_payload_size v o r id)

-- some of these are waited for, and carry the request
abbrev pub some_sent : (c : Conf) → Request → (k id now : ℕ) → List Sent → Scene → Bool
some_sent c r k id n [] t = false
some_sent c r k id n (x ∷ xs) t = (is_for c k id n x && carries_seen c Dgram r k id x.octets t) || some_sent c r k id n xs t

abbrev pub some_written : (c : Conf) → Request → (k id : ℕ) → List Written → Scene → Bool
some_written c r k id [] t = false
some_written c r k id (w ∷ ws) t = ((w.request == k) && carries_seen c Stream r k id w.octets t) || some_written c r k id ws t

-- an exchange of request k at place p is open, by the kind of the place
abbrev pub is_open_by : (c : Conf) → Via → Request → (k p id : ℕ) → (server : ℕ) → Scene → Bool
is_open_by c Dgram r k p id s t = some_sent c r k id t.ledger.now.books.requests.clock (listed p t.sends.now) t
is_open_by c Stream r k p id s t =
    is_young c t.ledger.now.books.requests.clock (start_seen k s Stream t.ledger.now.books.requests)
    && (not (brings_seen id (frames_of p t.ledger.now.frames.brought)) && some_written c r k id (waiting_seen p id t.ledger.now.waiting) t)

-- the request was handed to the server
abbrev pub is_handed : (k s : ℕ) → Scene → Bool
is_handed k s t = started_seen k s Dgram t.ledger.now.books.requests || started_seen k s Stream t.ledger.now.books.requests

abbrev pub is_open_at : (c : Conf) → Request → (k : ℕ) → Spot → Option Place → Scene → Bool
is_open_at c r k y None t = false
is_open_at c r k y (Some x) t =
    (is_alive (stand_of x.stand) && nat_lt x.server (length t.servers.now))
    && (is_handed k x.server t && is_open_by c x.via r k y.place y.id x.server t)

-- some exchange of it is open
abbrev pub some_open : (c : Conf) → Request → (k : ℕ) → List Spot → Scene → Bool
some_open c r k [] t = false
some_open c r k (y ∷ ys) t = is_open_at c r k y (entry_at y.place t.ledger.now.books.places) t || some_open c r k ys t

abbrev pub opens_seen : List (ℕ × Place) → (p : ℕ) → Bool
opens_seen places p = is_opening (stand_seen (entry_at p places))

-- a stream place opens, or is written to
abbrev pub moves_seen : List (ℕ × Place) → Writing → (p : ℕ) → Bool
moves_seen places w p = is_opening (stand_seen (entry_at p places)) || (is_alive (stand_seen (entry_at p places)) && unwritten_seen p w)

-- a server is busy for request k, which it has so
abbrev pub serves : (c : Conf) → Via → (s k : ℕ) → Scene → Bool
serves c Dgram s k t =
    some_of (opens_seen t.ledger.now.books.places) (members s t.loads.now.dgrams)
    || nat_le (max_places c) (count_of (taken_seen k t.ledger.now.books) (members s t.loads.now.dgrams))
serves c Stream s k t =
    some_of (moves_seen t.ledger.now.books.places t.writing.now) (members s t.loads.now.streams)
    || is_within t.ledger.now.books.requests.clock (entry_at s t.backs.now)

abbrev pub some_serves : (c : Conf) → (k : ℕ) → List Started → Scene → Bool
some_serves c k [] t = false
some_serves c k (x ∷ xs) t = serves c x.via x.server k t || some_serves c k xs t

abbrev pub is_busy_as : (c : Conf) (k : ℕ) → Option Asking → Scene → Bool
is_busy_as c k None t = false
is_busy_as c k (Some a) t = some_open c a.request k (listed k t.waits.now.spots) t || some_serves c k (listed k t.ledger.now.books.requests.starts) t

abbrev pub busy_seen : (c : Conf) → Scene → (k : ℕ) → Bool
busy_seen c t k = is_busy_as c k (entry_at k t.ledger.now.books.requests.askings) t

-- all of these are busy
abbrev pub all_busy : (c : Conf) → Scene → Members → Bool
all_busy c t [] = true
all_busy c t (e ∷ es) = busy_seen c t e.0 && all_busy c t es

-- the answer, of every history that is known so
abbrev pub TellsBusy : Scene → Bool → Type 0
TellsBusy t b = (c : Conf) (end : History) → t.conf.now ≡ c → c.servers ≡ map use_of t.servers.now → Known c end t → Tells (WaitingIsBusy c end) b
