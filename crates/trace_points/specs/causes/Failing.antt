-- Causes of errors that a row's event brings a request, or that the request has itself.
use Rattle.std.specs.Prelude.{◌≡◌, ℕ, ◌==◌, ◌&&◌, ◌||◌, not, Bool, true, false, List, [], ◌∷◌, Option, Some, None}
use Rattle.number_table.specs.Entries.{entry_at}
use Rattle.client_request.specs.Request.{Request}
use Rattle.client_request.specs.declared.error.Error.{Error}
use Rattle.client_request.specs.declared.error.Error.TheVariants as errors
use Rattle.client_request.specs.declared.error.QueryError.TheVariants as query
use Rattle.client_request.specs.declared.fault.Fault.{Fault}
use Rattle.client_request.specs.declared.fault.Fault.TheVariants as fault
use Rattle.client_request.specs.declared.event.What.{What}
use Rattle.client_request.specs.declared.event.What.TheVariants.{SendFailed, ShortSend, RecvFailed}
use Rattle.client_request.specs.declared.event.Via.TheVariants.{Dgram, Stream}
use Rattle.right_trace.specs.Trace.{History, Conf}
use Rattle.right_trace.specs.Time.{newest}
use Rattle.right_trace.specs.Messages.{base_is_read, passes_count}
use Rattle.right_trace.specs.Requests.{Asking, same_via}
use Rattle.right_trace.specs.Causes.{FailedAt, CannotBeComposed, CameWrong}
use Rattle.trace_tables.specs.declared.books.Books.{Books}
use Rattle.trace_tables.specs.declared.sends.Sent.{Sent}
use Rattle.trace_tables.specs.{Lists.listed, Requests.started_seen}
use Rattle.trace_tables.specs.Books as books
use Rattle.message_judging.specs.matching.Matching.{carries_by}
use Rattle.trace_points.specs.questions.Outs.{alive_server, Tells}
use Rattle.trace_points.specs.declared.exchanges.coming.Coming.{Coming}
use Rattle.trace_points.specs.exchanges.Coming.{is_wanted, AllComing}

-- some send of request k, which is r, carried it
abbrev pub some_carried : (c : Conf) → Request → (k : ℕ) → List Sent → Bool
some_carried c r k [] = false
some_carried c r k (x ∷ xs) = ((x.request == k) && carries_by c.transports.dgram_udp_payload_size Dgram x.octets r x.id) || some_carried c r k xs

abbrev pub was_carried : (c : Conf) (k : ℕ) → Option Asking → List Sent → Bool
was_carried c k None xs = false
was_carried c k (Some a) xs = some_carried c a.request k xs

abbrev pub was_sent : (c : Conf) (past : Books) → (k p : ℕ) → Option ℕ → Bool
was_sent c past k p None = false
was_sent c past k p (Some s) = started_seen k s Dgram past.requests && was_carried c k (entry_at k past.requests.askings) (listed p past.sends.sent)

-- request k was sent at p, an alive place of a server that has it
abbrev pub is_hit : (c : Conf) (past : Books) → (k p : ℕ) → Bool
is_hit c past k p = was_sent c past k p (alive_server Dgram (entry_at p past.places))

abbrev pub if_hit : Bool → Error → Option Error
if_hit true e = Some e
if_hit false e = None

-- the error that an event tells of a request
abbrev pub failure : (c : Conf) (past : Books) → (k : ℕ) → What → Option Error
failure c past k (SendFailed p f) = if_hit (is_hit c past k p) (errors.Dgram (query.Send f))
failure c past k (ShortSend p) = if_hit (is_hit c past k p) (errors.Dgram (query.Send fault.ShortSend))
failure c past k (RecvFailed p f) = if_hit (is_hit c past k p) (errors.Dgram (query.Receive f))
failure c past k _ = None

-- by the definitions an event tells this of a request
pub data Fails (c : Conf) (k : ℕ) (past : History) (w : What) : Error → Type 0 where
  InSending : (f : Fault) → FailedAt c (λ p. SendFailed p f) k past w → Fails c k past w (errors.Dgram (query.Send f))
  InPart : FailedAt c ShortSend k past w → Fails c k past w (errors.Dgram (query.Send fault.ShortSend))
  InReceiving : (f : Fault) → FailedAt c (λ p. RecvFailed p f) k past w → Fails c k past w (errors.Dgram (query.Receive f))

-- the answer, of every history that the books know
abbrev pub TellsFailure : (c : Conf) (past : Books) → (k : ℕ) → What → Option Error → Type 0
TellsFailure c past k w o = (x : History) → books.Known x past → (e : Error) → (o ≡ Some e → Fails c k x w e) × (Fails c k x w e → o ≡ Some e)

-- a message came by stream and does not answer
abbrev pub is_wrong : (k : ℕ) → Coming → Bool
is_wrong k x = (x.request == k) && (same_via x.via Stream && not x.agrees)

abbrev pub some_wrong : (k : ℕ) → List Coming → Bool
some_wrong k [] = false
some_wrong k (x ∷ xs) = is_wrong k x || some_wrong k xs

abbrev pub TellsWrong : Option ℕ → (k : ℕ) → List Coming → Bool → Type 0
TellsWrong want k xs b = (c : Conf) (x h : History) → is_wanted want k ≡ true → AllComing c want x h xs → Tells (CameWrong c k x (newest h) h) b

-- a request that was asked can't be composed
abbrev pub not_read : Option Asking → Bool
not_read None = false
not_read (Some a) = not (base_is_read a.request)

abbrev pub too_many : Option Asking → Bool
too_many None = false
too_many (Some a) = passes_count a.request

abbrev pub TellsUnread : (k : ℕ) → Books → Bool → Type 0
TellsUnread k b t = (h : History) → books.Known h b → Tells (CannotBeComposed base_is_read false k h) t

abbrev pub TellsTooMany : (k : ℕ) → Books → Bool → Type 0
TellsTooMany k b t = (h : History) → books.Known h b → Tells (CannotBeComposed passes_count true k h) t
