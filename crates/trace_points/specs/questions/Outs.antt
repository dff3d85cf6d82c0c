-- Whether an out is right where it is put, from the books before the row and those up to the out.
use Rattle.std.specs.Prelude.{◌≡◌, ℕ, ◌<◌, ◌&&◌, Bool, true, false, not, nat_lt, if◌then◌else◌, is_some, is_none, length, Option, Some, None}
use Rattle.number_table.specs.Entries.{entry_at}
use Rattle.client_request.specs.declared.event.{Via.Via, Via.TheVariants.Dgram}
use Rattle.right_trace.specs.Trace.{History, Conf}
use Rattle.right_trace.specs.{Messages.Octets, Time.max_tries, Causes.sends, Orderly.MaySend}
use Rattle.right_trace.specs.Requests.{Asking, same_via}
use Rattle.right_trace.specs.Places.{is_at, is_alive}
use Rattle.right_trace.specs.Right.{HasServer, IsFirst, IsUnopened}
use Rattle.trace_tables.specs.declared.books.Books.{Books}
use Rattle.trace_tables.specs.declared.places.Place.{Place}
use Rattle.trace_tables.specs.{Known.stand_of, Books.Known}
use Rattle.trace_tables.specs.Requests.{replied_seen, started_seen}
use Rattle.trace_tables.specs.Sends.{sends_seen, used_seen}
use Rattle.message_judging.specs.matching.Matching.{carries_by}

-- a reply to request k would be the first to one that was asked
abbrev pub first_seen : (k : ℕ) → Books → Bool
first_seen k b = is_some (entry_at k b.requests.askings) && not (replied_seen k b.requests)

-- the server of an alive place of this kind
abbrev pub alive_server : Via → Option Place → Option ℕ
alive_server v None = None
alive_server v (Some x) = if same_via x.via v && is_alive (stand_of x.stand) then Some x.server else None

-- octets carry the request that was asked
abbrev pub carried : Conf → Via → Octets → (id : ℕ) → Option Asking → Bool
carried c v octets id None = false
carried c v octets id (Some a) = carries_by c.transports.dgram_udp_payload_size v octets a.request id

-- a request may be sent at a place of this server
abbrev pub sends_to : Conf → (past here : Books) → (k p id : ℕ) → Octets → Option ℕ → Bool
sends_to c past here k p id octets None = false
sends_to c past here k p id octets (Some s) =
    not (replied_seen k past.requests)
    && (started_seen k s Dgram here.requests
    && (not (used_seen p here.sends) && (nat_lt (sends_seen k s here.sends) (max_tries c) && carried c Dgram octets id (entry_at k here.requests.askings))))

abbrev pub send_seen : Conf → (past here : Books) → (k p id : ℕ) → Octets → Bool
send_seen c past here k p id octets = sends_to c past here k p id octets (alive_server Dgram (entry_at p here.places))

-- what the definitions want of an out that sends
abbrev pub SendIsRight : (c : Conf) (k p id : ℕ) → Octets → (past h : History) → Type 0
SendIsRight c k p id octets past h = ((s : ℕ) → is_at Dgram s p h ≡ true → sends k s h < max_tries c) × MaySend c k p id octets past h

-- a datagram place may be opened
abbrev pub opens_seen : Conf → (p s : ℕ) → Books → Bool
opens_seen c p s b = nat_lt s (length c.servers) && is_none (entry_at p b.places)

abbrev pub OpenIsRight : Conf → (p s : ℕ) → History → Type 0
OpenIsRight c p s h = HasServer c × (s < length c.servers) × IsUnopened p h

-- an answer is true exactly where this holds
abbrev pub Tells : Type 0 → Bool → Type 0
Tells P b = (b ≡ true → P) × (P → b ≡ true)

-- the answers, of every history that the books know
abbrev pub TellsFirst : (k : ℕ) → Books → Bool → Type 0
TellsFirst k b t = (h : History) → Known h b → Tells (IsFirst k h) t

abbrev pub TellsSend : (c : Conf) (past here : Books) → (k p id : ℕ) → Octets → Bool → Type 0
TellsSend c past here k p id o t = (x h : History) → Known x past → Known h here → Tells (SendIsRight c k p id o x h) t

abbrev pub TellsOpening : Conf → (p s : ℕ) → Books → Bool → Type 0
TellsOpening c p s b t = (h : History) → Known h b → Tells (OpenIsRight c p s h) t
