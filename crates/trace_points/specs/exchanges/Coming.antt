-- The messages that come for requests in a row, as a walk over what its event brought finds them.
use Rattle.std.specs.Prelude.{◌≡◌, ℕ, ◌+◌, ◌==◌, ◌&&◌, not, nat_lt, Bool, true, false, if◌then◌else◌, is_some, length, List, [], ◌∷◌, ◌++◌, Option, Some, None}
use Rattle.number_table.specs.Entries.{puts, entry_at}
use Rattle.client_request.specs.Request.{Request}
use Rattle.client_request.specs.declared.event.Via.{Via}
use Rattle.client_request.specs.declared.event.Via.TheVariants.{Dgram, Stream}
use Rattle.dns_base.specs.{Answering.is_answer, Header.id_of}
use Rattle.right_trace.specs.Trace.{History, Conf}
use Rattle.right_trace.specs.Time.{newest, row_before, read_timeout, stream_timeout, recv_size}
use Rattle.right_trace.specs.Messages.{Octets, answers}
use Rattle.right_trace.specs.{Requests.Asking, Places.is_alive, Parts.IsIn, Writes.Written, Exchanges.Comes, Frames.received}
use Rattle.trace_tables.specs.declared.books.Books.{Books}
use Rattle.trace_tables.specs.declared.places.Place.{Place}
use Rattle.trace_tables.specs.declared.sends.Sent.{Sent}
use Rattle.trace_tables.specs.{Known.stand_of, Lists.listed}
use Rattle.trace_tables.specs.Requests.{replied_seen, start_seen}
use Rattle.trace_tables.specs.Books as books
use Rattle.trace_tables.specs.declared.frames.frames.Brought.{Brought}
use Rattle.trace_tables.specs.declared.frames.ledger.Ledger.{Ledger}
use Rattle.trace_tables.specs.frames.Ledger as ledger
use Rattle.trace_tables.specs.frames.Waiting.{waiting_seen}
use Rattle.message_judging.specs.matching.Matching.{carries_by}
use Rattle.trace_points.specs.declared.exchanges.coming.Coming.{Coming}
use Rattle.trace_points.specs.exchanges.Open.{Open}
use Rattle.trace_points.specs.exchanges.Open as open_sends

-- all requests, or one
abbrev pub is_wanted : Option ℕ → (k : ℕ) → Bool
is_wanted None k = true
is_wanted (Some j) k = j == k

-- a place that is alive, of a server that the configuration has
abbrev pub is_known_place : Conf → Place → Bool
is_known_place c x = is_alive (stand_of x.stand) && nat_lt x.server (length c.servers)

-- octets that were sent for a request that was asked carry it, and a message comes on that
abbrev pub comes_on : (c : Conf) → Place → (p k id : ℕ) → (sent message : Octets) → Option Asking → Option Coming
comes_on c x p k id o m None = None
comes_on c x p k id o m (Some a) = if carries_by c.transports.dgram_udp_payload_size x.via o a.request id
    then Some (record { request = k; via = x.via; server = x.server; place = p; id = id; message = m; agrees = is_answer id a.request.base m })
    else None

-- the same where the request waited before the row, and is wanted
abbrev pub comes_for : (c : Conf) → Option ℕ → (past : Books) → Place → (p k id : ℕ) → (sent message : Octets) → Option Coming
comes_for c want past x p k id o m = if is_wanted want k && not (replied_seen k past.requests) then comes_on c x p k id o m (entry_at k past.requests.askings) else None

abbrev pub before : Option Coming → List Coming → List Coming
before None xs = xs
before (Some x) xs = x ∷ xs

abbrev pub on_send : (c : Conf) → Option ℕ → (past : Books) → Place → (p now : ℕ) → Octets → Sent → Option Coming
on_send c want past x p n m y = if nat_lt n (y.moment + read_timeout c) then comes_for c want past x p y.request y.id y.octets m else None

-- what is found of each of these
abbrev pub found_in : {A : Type 0} → (A → Option Coming) → List A → List Coming
found_in f [] = []
found_in f (y ∷ ys) = before (f y) (found_in f ys)

abbrev pub on_sends : (c : Conf) → Option ℕ → (past : Books) → Place → (p now : ℕ) → Octets → List Sent → List Coming
on_sends c want past x p n m ys = found_in (on_send c want past x p n m) ys

-- the time of a request by stream is not over since a start
abbrev pub is_young : (c : Conf) (now : ℕ) → Option ℕ → Bool
is_young c n None = false
is_young c n (Some t) = nat_lt n (t + stream_timeout c)

abbrev pub on_write : (c : Conf) → Option ℕ → (past here : Books) → Place → (p id : ℕ) → Octets → Written → Option Coming
on_write c want past here x p id m w = if is_young c here.requests.clock (start_seen w.request x.server Stream here.requests) then comes_for c want past x p w.request id w.octets m else None

abbrev pub on_writes : (c : Conf) → Option ℕ → (past here : Books) → Place → (p id : ℕ) → Octets → List Written → List Coming
on_writes c want past here x p id m ws = found_in (on_write c want past here x p id m) ws

-- frames up to a bad one, each with an id that none before it has
abbrev pub in_frames : (c : Conf) → Option ℕ → (past : Books) → (here : Ledger) → Place → (p : ℕ) → (seen : List (ℕ × Unit {0})) → List Octets → List Coming
in_frames c want past here x p seen [] = []
in_frames c want past here x p seen (m ∷ ms) =
    if nat_lt (length m) 12 then []
    else (if is_some (entry_at (id_of m) seen) then in_frames c want past here x p seen ms
    else on_writes c want past here.books x p (id_of m) m (waiting_seen p (id_of m) here.waiting) ++ in_frames c want past here x p (puts (id_of m) tt seen) ms)

abbrev pub in_datagrams : (c : Conf) → Option ℕ → (past : Books) → Open → (here : Ledger) → Place → (p : ℕ) → List Octets → List Coming
in_datagrams c want past sent here x p [] = []
in_datagrams c want past sent here x p (m ∷ ms) = if nat_lt (length m) 12 then [] else on_sends c want past x p here.books.requests.clock m (listed p sent)

abbrev pub by_kind : (c : Conf) → Via → Option ℕ → (past : Books) → Open → (here : Ledger) → Place → (p : ℕ) → List Octets → List Coming
by_kind c Dgram want past sent here x p ms = in_datagrams c want past sent here x p (received (recv_size c) ms)
by_kind c Stream want past sent here x p ms = in_frames c want past here x p [] ms

abbrev pub at_place : Conf → Option ℕ → (past : Books) → Open → (here : Ledger) → (p : ℕ) → List Octets → Option Place → List Coming
at_place c want past sent here p ms None = []
at_place c want past sent here p ms (Some x) = if is_known_place c x then by_kind c x.via want past sent here x p ms else []

abbrev pub brought_in : Conf → Option ℕ → (past : Books) → Open → (here : Ledger) → Option Brought → List Coming
brought_in c want past sent here None = []
brought_in c want past sent here (Some b) = at_place c want past sent here b.place b.frames (entry_at b.place past.places)

-- all that comes in a row, or all that comes for one request
abbrev pub coming : Conf → Option ℕ → (past : Books) → Open → (here : Ledger) → List Coming
coming c want past sent here = brought_in c want past sent here here.frames.brought

-- it is a message that comes for its request
pub record IsComing (c : Conf) (past h : History) (x : Coming) : Type 0 where
  pub asked_as : Request
  pub comes : Comes c asked_as x.via x.server x.place x.request x.id x.message past (newest h) h
  pub agreeing : x.agrees ≡ answers asked_as x.id x.message

-- all in a list come, and all that come for a wanted request are in it
pub record AllComing (c : Conf) (want : Option ℕ) (past h : History) (xs : List Coming) : Type 0 where
  pub so : (x : Coming) → IsIn x xs → IsComing c past h x
  pub back : (r : Request) (v : Via) (s p k id : ℕ) (m : Octets) → is_wanted want k ≡ true → Comes c r v s p k id m past (newest h) h
      → IsIn (record { request = k; via = v; server = s; place = p; id = id; message = m; agrees = answers r id m }) xs

-- of every two histories that the tables know, where the first is what was before the row of the second
abbrev pub TellsComing : Conf → Option ℕ → (past : Books) → Open → (here : Ledger) → List Coming → Type 0
TellsComing c want past sent here xs = (x h : History) → row_before h ≡ x → books.Known x past → open_sends.Known c x sent → ledger.Known h here → AllComing c want x h xs
