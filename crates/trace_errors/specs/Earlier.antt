-- All that a forward pass keeps of rows that are done for causes of errors, and whether a server gave a request an error in one.
use Rattle.std.specs.Prelude.{◌≡◌, ℕ, ◌⊎◌, Bool, true, false, List, None, []}
use Rattle.client_request.specs.declared.error.Error.{Error}
use Rattle.client_request.specs.declared.error.Error.TheVariants as errors
use Rattle.client_request.specs.declared.error.QueryError.TheVariants as query
use Rattle.client_request.specs.declared.event.Row.{Row}
use Rattle.right_trace.specs.Trace.{History, Conf, after}
use Rattle.right_trace.specs.{Settings.Settings, Right.RowRight}
use Rattle.trace_tables.specs.declared.books.Books.{Books}
use Rattle.trace_tables.specs.Books as books
use Rattle.trace_tables.specs.declared.frames.here.Here.{Here}
use Rattle.trace_tables.specs.declared.frames.ledger.Ledger.{Ledger}
use Rattle.trace_tables.specs.frames.Ledger as ledger
use Rattle.trace_tables.specs.frames.Here as here_outs
use Rattle.trace_points.specs.declared.due.timers.Timers.{Timers}
use Rattle.trace_points.specs.due.Timers as timers
use Rattle.trace_points.specs.questions.Outs.{Tells}
use Rattle.trace_points.specs.declared.exchanges.coming.Coming.{Coming}
use Rattle.trace_points.specs.exchanges.Coming.{AllComing}
use Rattle.trace_points.specs.causes.Failing.{TellsUnread, TellsTooMany}
use Rattle.trace_errors.specs.promptness.Heard.{Heards}
use Rattle.trace_errors.specs.promptness.Heard as heards
use Rattle.trace_errors.specs.promptness.Overdue.{tries_are_up, stream_is_silent}
use Rattle.trace_errors.specs.declared.earlier.Earlier.{Earlier}
use Rattle.trace_errors.specs.{Rows.WasCaused, Openings.IsRefused}
use Rattle.trace_errors.specs.Openings as openings
use Rattle.trace_errors.specs.Noted.{Noted, IsNoted}
use Rattle.trace_errors.specs.Noted as noted
use Rattle.trace_errors.specs.Arrivals as arrivals

abbrev pub nothing : Earlier
nothing = record { openings = openings.nothing; noted = []; arrivals = arrivals.nothing }

-- what a row makes of it, over what was known before it and what is known behind it, and by what came in it
abbrev pub after_row : (c : Conf) → Settings → (past : Ledger) → Timers → Heards → (here : Ledger) → Here → Row → List Coming → Earlier → Earlier
after_row c s l t heard l' o row xs e = record {
  openings = openings.after_row l.books.places l'.books.places row e.openings;
  noted = noted.after_row c l.books l'.books heard row xs e.noted;
  arrivals = arrivals.after_row c s l t l' o xs e.arrivals;
}

-- what is kept is what the definitions say, where rows are done
pub record Known (c : Conf) (s : Settings) (h : History) (e : Earlier) : Type 0 where
  pub openings : openings.Known c h e.openings
  pub noted : noted.Known c h e.noted
  pub arrivals : arrivals.Known c s h e.arrivals

-- it is known before the first row, and goes on over rows that are right
pub record GoesOn : Type 0 where
  pub begins : (c : Conf) (s : Settings) → Known c s [] nothing
  pub row : (c : Conf) (s : Settings) (past : History) (row : Row) (l l' : Ledger) (t : Timers) (heard heard' : Heards) (o : Here) (xs : List Coming) (e : Earlier) → RowRight c s past row
      → ledger.Known past l → ledger.Known (after row past) l' → timers.Known c past t → heards.Known c past heard → heards.Known c (after row past) heard' → here_outs.Known l.books.places (after row past) o
      → AllComing c None past (after row past) xs → Known c s past e → Known c s (after row past) (after_row c s l t heard l' o row xs e)

-- an error is noted, or its cause is there still
abbrev pub IsLost : (c : Conf) (k : ℕ) → Noted → (past : Books) → Type 0
IsLost c k n b = IsNoted k (errors.Dgram query.Timeout) n ⊎ (tries_are_up c k b.requests.clock b.places b ≡ true)

abbrev pub IsSilent : (c : Conf) (k : ℕ) → Noted → (past : Books) → Heards → Type 0
IsSilent c k n b heard = IsNoted k errors.StreamReadTimeout n ⊎ (stream_is_silent c k b.requests.clock b.requests heard ≡ true)

-- what an answer is for each error
abbrev pub AnswersFor : (c : Conf) (past : Books) → Heards → Earlier → (k : ℕ) → Error → Bool → Type 0
AnswersFor c b heard t k (errors.Dgram (query.Connect f)) a = Tells (IsRefused k f t.openings) a
AnswersFor c b heard t k (errors.Dgram (query.Send f)) a = Tells (IsNoted k (errors.Dgram (query.Send f)) t.noted) a
AnswersFor c b heard t k (errors.Dgram (query.Receive f)) a = Tells (IsNoted k (errors.Dgram (query.Receive f)) t.noted) a
AnswersFor c b heard t k (errors.Dgram query.Timeout) a = Tells (IsLost c k t.noted b) a
AnswersFor c b heard t k errors.WrongReplyForQuery a = Tells (IsNoted k errors.WrongReplyForQuery t.noted) a
AnswersFor c b heard t k errors.StreamReadTimeout a = Tells (IsSilent c k t.noted b heard) a
AnswersFor c b heard t k errors.MessageParseError a = TellsUnread k b a
AnswersFor c b heard t k errors.MessageBuilderPushError a = TellsTooMany k b a
AnswersFor c b heard t k _ a = a ≡ false

-- the answer, of every history that the tables know, where rows are done
abbrev pub TellsEarlier : (c : Conf) (past : Books) → Heards → Earlier → (k : ℕ) → Error → Bool → Type 0
TellsEarlier c b heard t k e a = (s : Settings) (x : History) → books.Known x b → heards.Known c x heard → Known c s x t → Tells (WasCaused c k e x) a
