-- What a forward pass keeps of errors that a server gave a request in a row that is done.
use Rattle.std.specs.Prelude.{ℕ, ◌&&◌, ◌⊎◌, not, if◌then◌else◌, List, [], ◌∷◌, Option, Some, None}
use Rattle.client_request.specs.declared.error.Error.{Error}
use Rattle.client_request.specs.declared.error.Error.TheVariants as errors
use Rattle.client_request.specs.declared.error.QueryError.TheVariants as query
use Rattle.client_request.specs.declared.fault.Fault.{Fault}
use Rattle.client_request.specs.declared.event.{What.What, Out.Out, Out.TheVariants.Close, Row.Row, Via.TheVariants.Stream}
use Rattle.client_request.specs.declared.event.What.TheVariants.{OpenFailed, SendFailed, ShortSend, RecvFailed}
use Rattle.right_trace.specs.Trace.{History, Conf, after}
use Rattle.right_trace.specs.{Time.now, Settings.Settings, Requests.same_via, Parts.IsIn, Right.RowRight}
use Rattle.right_trace.specs.Causes.{TriesAreUp, StreamIsSilent}
use Rattle.trace_tables.specs.declared.books.Books.{Books}
use Rattle.trace_tables.specs.Books as books
use Rattle.trace_tables.specs.Lists.{listed, adds}
use Rattle.trace_points.specs.declared.exchanges.coming.Coming.{Coming}
use Rattle.trace_points.specs.exchanges.Coming.{AllComing}
use Rattle.trace_points.specs.causes.Failing.{failure}
use Rattle.trace_errors.specs.promptness.Heard.{Heards}
use Rattle.trace_errors.specs.promptness.Heard as heards
use Rattle.trace_errors.specs.promptness.Overdue.{tries_are_up, stream_is_silent}
use Rattle.trace_errors.specs.Rows.{WasCaused}

-- by request, the newest first
abbrev pub Noted : Type 0
Noted = List (ℕ × List Error)

abbrev pub notes : (k : ℕ) → Option Error → Noted → Noted
notes k None t = t
notes k (Some e) t = adds k e t

-- an error is noted of the request of each of these, where there is one
abbrev pub note_all : {A : Type 0} → (A → ℕ) → (A → Option Error) → List A → Noted → Noted
note_all f g [] t = t
note_all f g (x ∷ xs) t = note_all f g xs (notes (f x) (g x) t)

-- the tries of a request are up
abbrev pub lost : (c : Conf) (past here : Books) → (k : ℕ) → Option Error
lost c past here k = if tries_are_up c k here.requests.clock past.places here then Some (errors.Dgram query.Timeout) else None

abbrev pub wrong_of : Coming → Option Error
wrong_of x = if same_via x.via Stream && not x.agrees then Some errors.WrongReplyForQuery else None

-- a message comes by stream for a request that some server left without one for long
abbrev pub silent_of : (c : Conf) (past here : Books) → Heards → Coming → Option Error
silent_of c past here heard x = if same_via x.via Stream && stream_is_silent c x.request here.requests.clock past.requests heard then Some errors.StreamReadTimeout else None

-- where an event tells of a fault in sending or receiving, and where one ends a place
abbrev pub failed_place : What → Option ℕ
failed_place (SendFailed p f) = Some p
failed_place (ShortSend p) = Some p
failed_place (RecvFailed p f) = Some p
failed_place _ = None

abbrev pub unopened_place : What → Option ℕ
unopened_place (OpenFailed p f) = Some p
unopened_place _ = None

abbrev pub closed_place : Out → Option ℕ
closed_place (Close p) = Some p
closed_place _ = None

-- errors of what was sent at a place where a fault is told
abbrev pub note_failed : (c : Conf) (past : Books) → What → Option ℕ → Noted → Noted
note_failed c past w None t = t
note_failed c past w (Some p) t = note_all (λ x. x.request) (λ x. failure c past x.request w) (listed p past.sends.sent) t

-- errors of what was sent at a place that ends
abbrev pub note_lost : (c : Conf) (past here : Books) → Option ℕ → Noted → Noted
note_lost c past here None t = t
note_lost c past here (Some p) t = note_all (λ x. x.request) (λ x. lost c past here x.request) (listed p here.sends.sent) t

abbrev pub note_closed : (c : Conf) (past here : Books) → List Out → Noted → Noted
note_closed c past here [] t = t
note_closed c past here (o ∷ os) t = note_closed c past here os (note_lost c past here (closed_place o) t)

abbrev pub note_comings : (c : Conf) (past here : Books) → Heards → List Coming → Noted → Noted
note_comings c past here heard xs t = note_all (λ x. x.request) (silent_of c past here heard) xs (note_all (λ x. x.request) wrong_of xs t)

-- what a row makes of it, over what was known before it and what is known behind it, and by what came in it
abbrev pub after_row : (c : Conf) (past here : Books) → Heards → Row → List Coming → Noted → Noted
after_row c past here heard row xs t =
    note_comings c past here heard xs (note_closed c past here row.outs (note_lost c past here (unopened_place row.event.what) (note_failed c past row.event.what (failed_place row.event.what) t)))

abbrev pub IsNoted : (k : ℕ) → Error → Noted → Type 0
IsNoted k e t = IsIn e (listed k t)

-- What is kept is what the definitions say, where rows are done; of tries and silence only what is not so any more need be kept.
pub record Known (c : Conf) (h : History) (t : Noted) : Type 0 where
  pub so : (k : ℕ) (e : Error) → IsNoted k e t → WasCaused c k e h
  pub sending : (k : ℕ) (f : Fault) → WasCaused c k (errors.Dgram (query.Send f)) h → IsNoted k (errors.Dgram (query.Send f)) t
  pub receiving : (k : ℕ) (f : Fault) → WasCaused c k (errors.Dgram (query.Receive f)) h → IsNoted k (errors.Dgram (query.Receive f)) t
  pub wrong : (k : ℕ) → WasCaused c k errors.WrongReplyForQuery h → IsNoted k errors.WrongReplyForQuery t
  pub tries : (k : ℕ) → WasCaused c k (errors.Dgram query.Timeout) h → IsNoted k (errors.Dgram query.Timeout) t ⊎ TriesAreUp c k (now h) h h
  pub silence : (k : ℕ) → WasCaused c k errors.StreamReadTimeout h → IsNoted k errors.StreamReadTimeout t ⊎ StreamIsSilent c k (now h) h

-- it is known before the first row, and goes on over rows that are right
pub record GoesOn : Type 0 where
  pub begins : (c : Conf) → Known c [] []
  pub row : (c : Conf) (s : Settings) (past : History) (row : Row) (b b' : Books) (heard heard' : Heards) (xs : List Coming) (t : Noted) → RowRight c s past row
      → books.Known past b → books.Known (after row past) b' → heards.Known c past heard → heards.Known c (after row past) heard' → AllComing c None past (after row past) xs
      → Known c past t → Known c (after row past) (after_row c b b' heard row xs t)
