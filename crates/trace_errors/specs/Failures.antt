-- Why a server gives a request an error in a row, decided by the kind of error.
use Rattle.std.specs.Prelude.{◌≡◌, ℕ, Bool, true, false, List, Option, Some}
use Rattle.client_request.specs.declared.error.Error.{Error}
use Rattle.client_request.specs.declared.error.Error.TheVariants as errors
use Rattle.client_request.specs.declared.error.QueryError.TheVariants as query
use Rattle.client_request.specs.declared.event.What.{What}
use Rattle.right_trace.specs.Trace.{History, Conf}
use Rattle.right_trace.specs.{Time.newest, Causes.ServerCause}
use Rattle.trace_tables.specs.declared.books.Books.{Books}
use Rattle.trace_tables.specs.Books as books
use Rattle.trace_points.specs.questions.{Causes.opening_fault, Outs.Tells}
use Rattle.trace_points.specs.declared.exchanges.coming.Coming.{Coming}
use Rattle.trace_points.specs.exchanges.Coming.{is_wanted, AllComing}
use Rattle.trace_points.specs.causes.Failing.{Fails, some_wrong, TellsUnread, TellsTooMany}
use Rattle.trace_errors.specs.promptness.Heard.{Heards}
use Rattle.trace_errors.specs.promptness.Heard as heards
use Rattle.trace_errors.specs.promptness.Overdue.{tries_are_up, stream_is_silent}

-- an event tells a request of this error in sending or receiving
abbrev pub TellsFails : (c : Conf) (past : Books) → (k : ℕ) → What → Error → Bool → Type 0
TellsFails c past k w e b = (x : History) → books.Known x past → Tells (Fails c k x w e) b

-- what an answer is for each error
abbrev pub AnswersFor : (c : Conf) (past : Books) → Heards → (here : Books) → What → List Coming → (k : ℕ) → Error → Bool → Type 0
AnswersFor c past heard here w xs k (errors.Dgram (query.Connect f)) b = Tells (opening_fault past.places here.places here.requests k w ≡ Some f) b
AnswersFor c past heard here w xs k (errors.Dgram (query.Send f)) b = TellsFails c past k w (errors.Dgram (query.Send f)) b
AnswersFor c past heard here w xs k (errors.Dgram (query.Receive f)) b = TellsFails c past k w (errors.Dgram (query.Receive f)) b
AnswersFor c past heard here w xs k (errors.Dgram query.Timeout) b = b ≡ tries_are_up c k here.requests.clock past.places here
AnswersFor c past heard here w xs k errors.WrongReplyForQuery b = b ≡ some_wrong k xs
AnswersFor c past heard here w xs k errors.StreamReadTimeout b = b ≡ stream_is_silent c k here.requests.clock past.requests heard
AnswersFor c past heard here w xs k errors.MessageParseError b = TellsUnread k here b
AnswersFor c past heard here w xs k errors.MessageBuilderPushError b = TellsTooMany k here b
AnswersFor c past heard here w xs k _ b = b ≡ false

-- the answer, of every two histories that the tables know, where all that came for the request in the row is among these
abbrev pub TellsServer : (c : Conf) (past : Books) → Heards → (here : Books) → What → List Coming → (k : ℕ) → Error → Bool → Type 0
TellsServer c past heard here w xs k e b =
    (want : Option ℕ) (x h : History) → books.Known x past → heards.Known c x heard → books.Known h here → newest h ≡ w → is_wanted want k ≡ true → AllComing c want x h xs
    → Tells (ServerCause c k x w h e) b
