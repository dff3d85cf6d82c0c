-- What servers still owe a request, as a walk over its exchanges finds it.
use Rattle.std.specs.Prelude.{◌≡◌, ℕ, ◌<◌, ◌==◌, ◌&&◌, ◌||◌, not, nat_lt, Bool, true, false, length, List, [], ◌∷◌, Option, Some, None}
use Rattle.number_table.specs.Entries.{entry_at}
use Rattle.client_request.specs.Request.{Request}
use Rattle.client_request.specs.declared.event.{What.What, Via.Via}
use Rattle.client_request.specs.declared.event.Via.TheVariants.{Dgram, Stream}
use Rattle.right_trace.specs.Trace.{History, Conf}
use Rattle.right_trace.specs.{Requests.Asking, Writes.Written, Owed.AllAreDone}
use Rattle.right_trace.specs.Places.{is_alive, is_told}
use Rattle.trace_tables.specs.declared.books.Books.{Books}
use Rattle.trace_tables.specs.declared.places.Place.{Place}
use Rattle.trace_tables.specs.declared.requests.Requests.{Requests}
use Rattle.trace_tables.specs.declared.sends.Sent.{Sent}
use Rattle.trace_tables.specs.{Known.stand_seen, Lists.listed}
use Rattle.trace_tables.specs.Requests.{start_seen, started_seen}
use Rattle.trace_tables.specs.Books as books
use Rattle.trace_tables.specs.declared.frames.ledger.Ledger.{Ledger}
use Rattle.trace_tables.specs.frames.{Frames.frames_of, Waiting.waiting_seen}
use Rattle.trace_tables.specs.frames.Ledger as ledger
use Rattle.message_judging.specs.matching.Matching.{carries_by}
use Rattle.trace_points.specs.due.Loose.{brings_seen}
use Rattle.trace_points.specs.questions.Outs.{Tells}
use Rattle.trace_points.specs.exchanges.Open.{Open, is_for}
use Rattle.trace_points.specs.exchanges.Open as open_sends
use Rattle.trace_points.specs.exchanges.Coming.{is_young}
use Rattle.trace_errors.specs.declared.owed.exchanged.Exchange.{Exchange}
use Rattle.trace_errors.specs.owed.Exchanged.{Exchanged}
use Rattle.trace_errors.specs.owed.Exchanged as exchanged

-- something that was sent for request k, which is r, under this id less than a read timeout ago carries it
abbrev pub some_sent : (c : Conf) → Request → (k id now : ℕ) → List Sent → Bool
some_sent c r k id n [] = false
some_sent c r k id n (x ∷ xs) = (is_for c k id n x && carries_by c.transports.dgram_udp_payload_size Dgram x.octets r x.id) || some_sent c r k id n xs

-- something that was written for it carries it
abbrev pub some_written : (c : Conf) → Request → (k id : ℕ) → List Written → Bool
some_written c r k id [] = false
some_written c r k id (w ∷ ws) = ((w.request == k) && carries_by c.transports.dgram_udp_payload_size Stream w.octets r id) || some_written c r k id ws

-- it is waited for at a place of this kind and server
abbrev pub waits_by : (c : Conf) → Via → (s : ℕ) → Request → (k p id : ℕ) → (here : Ledger) → Open → Bool
waits_by c Dgram s r k p id l sent = some_sent c r k id l.books.requests.clock (listed p sent)
waits_by c Stream s r k p id l sent =
    is_young c l.books.requests.clock (start_seen k s Stream l.books.requests)
    && (not (brings_seen id (frames_of p l.frames.brought)) && some_written c r k id (waiting_seen p id l.waiting))

-- a place is alive, or was when the row began and the event does not tell that it is broken
abbrev pub alive_seen : Option Place → Bool
alive_seen x = is_alive (stand_seen x)

abbrev pub is_still_alive : (p : ℕ) → What → (past here : Option Place) → Bool
is_still_alive p w past here = alive_seen here || (alive_seen past && not (is_told p w))

abbrev pub owes_there : Conf → Request → (k p id : ℕ) → (here : Ledger) → Open → Option Place → Bool
owes_there c r k p id l sent None = false
owes_there c r k p id l sent (Some x) = nat_lt x.server (length c.servers) && waits_by c x.via x.server r k p id l sent

-- a server of the configuration owes an answer on an exchange
abbrev pub owes_on : Conf → Request → (k : ℕ) → What → (past : Books) → (here : Ledger) → Open → Exchange → Bool
owes_on c r k w past l sent x = is_still_alive x.place w (entry_at x.place past.places) (entry_at x.place l.books.places) && owes_there c r k x.place x.id l sent (entry_at x.place l.books.places)

abbrev pub some_owe : Conf → Request → (k : ℕ) → What → (past : Books) → (here : Ledger) → Open → List Exchange → Bool
some_owe c r k w past l sent [] = false
some_owe c r k w past l sent (x ∷ xs) = owes_on c r k w past l sent x || some_owe c r k w past l sent xs

abbrev pub is_owed_to : Conf → Option Asking → (k : ℕ) → What → (past : Books) → (here : Ledger) → Open → List Exchange → Bool
is_owed_to c None k w past l sent xs = false
is_owed_to c (Some a) k w past l sent xs = some_owe c a.request k w past l sent xs

abbrev pub is_owed : Conf → (k : ℕ) → What → (past : Books) → (here : Ledger) → Open → Exchanged → Bool
is_owed c k w past l sent t = is_owed_to c (entry_at k l.books.requests.askings) k w past l sent (listed k t)

abbrev pub handed_seen : (k s : ℕ) → Requests → Bool
handed_seen k s r = started_seen k s Dgram r || started_seen k s Stream r

-- each server of the configuration has a request
abbrev pub AllHave : Conf → (k : ℕ) → Requests → Type 0
AllHave c k r = (s : ℕ) → s < length c.servers → handed_seen k s r ≡ true

-- the answer, as it is found
abbrev pub IsDone : Conf → (k : ℕ) → What → (past : Books) → (here : Ledger) → Open → Exchanged → Bool → Type 0
IsDone c k w past l sent t b = Tells (AllHave c k l.books.requests × (is_owed c k w past l sent t ≡ false)) b

-- the answer, of every two histories that the tables know
abbrev pub TellsDone : Conf → (k : ℕ) → What → (past : Books) → (here : Ledger) → Open → Exchanged → Bool → Type 0
TellsDone c k w past l sent t b = (x h : History) → books.Known x past → ledger.Known h l → open_sends.Known c h sent → exchanged.Known c h t → Tells (AllAreDone c k x w h) b
