-- Whether each final message that comes is its request's reply, as a walk finds it.
use Rattle.std.specs.Prelude.{ℕ, ◌==◌, ◌&&◌, ◌||◌, not, nat_lt, Bool, true, false, List, [], ◌∷◌, Option, Some, None, Ok}
use Rattle.number_table.specs.Entries.{entry_at}
use Rattle.client_request.specs.declared.event.{Out.Out, Row.Row, Via.Via}
use Rattle.client_request.specs.declared.event.Out.TheVariants.{Reply, Stale}
use Rattle.client_request.specs.declared.event.Via.TheVariants.{Dgram, Stream}
use Rattle.dns_base.specs.Header.{tc_of}
use Rattle.right_trace.specs.Trace.{History, Conf, after}
use Rattle.right_trace.specs.{Settings.Settings, Views.is_failing_message, Messages.Octets, Requests.same_via, Right.Prompt}
use Rattle.trace_tables.specs.declared.books.Books.{Books}
use Rattle.trace_tables.specs.declared.places.Place.{Place}
use Rattle.trace_tables.specs.declared.frames.frames.Brought.{Brought}
use Rattle.trace_tables.specs.declared.frames.here.Here.{Here}
use Rattle.trace_tables.specs.declared.frames.ledger.Ledger.{Ledger}
use Rattle.trace_tables.specs.frames.Ledger as ledger
use Rattle.trace_tables.specs.frames.Here as here_outs
use Rattle.message_judging.specs.matching.Shapes.{same_octets}
use Rattle.trace_points.specs.declared.due.timers.Timers.{Timers}
use Rattle.trace_points.specs.due.Timers as timers
use Rattle.trace_points.specs.declared.exchanges.coming.Coming.{Coming}
use Rattle.trace_points.specs.exchanges.Coming.{AllComing}
use Rattle.trace_points.specs.questions.Outs.{Tells}
use Rattle.trace_errors.specs.promptness.{Settings.is_final_for, Overdue.is_overdue}
use Rattle.trace_errors.specs.promptness.Heard.{Heards, is_passed_over}
use Rattle.trace_errors.specs.promptness.Heard as heards

-- an out is the reply to request k with this message
abbrev pub gives : (k : ℕ) → Octets → Out → Bool
gives k m (Reply j (Ok x)) = (j == k) && same_octets x m
gives k m _ = false

abbrev pub is_given : (k : ℕ) → Octets → List Out → Bool
is_given k m [] = false
is_given k m (o ∷ os) = gives k m o || is_given k m os

-- an out marks the reply to request k as stale
abbrev pub marks : (k : ℕ) → Out → Bool
marks k (Stale j) = j == k
marks k _ = false

abbrev pub is_marked : (k : ℕ) → List Out → Bool
is_marked k [] = false
is_marked k (o ∷ os) = marks k o || is_marked k os

-- a message is given; or, where an expired message may serve and this one fails, a stale one
abbrev pub is_given_so : Settings → (k : ℕ) → Octets → List Out → Bool
is_given_so s k m os = is_given k m os || (nat_lt 0 s.stale_for && (is_failing_message m && is_marked k os))

-- a datagram has TC clear
abbrev pub is_uncut : Via → Octets → Bool
is_uncut Dgram m = not (tc_of m)
is_uncut Stream m = true

abbrev pub matches : Coming → Bool
matches x = x.agrees && is_uncut x.via x.message

-- a message is the reply, or need not be
abbrev pub is_answered : Conf → Settings → (moment : ℕ) → (past : Books) → Heards → List Out → Coming → Bool
is_answered c s n past heard os x =
    not (matches x && is_final_for s x.message (entry_at x.request past.requests.askings))
    || (is_given_so s x.request x.message os || is_overdue c s x.request n past heard)

abbrev pub are_answered : Conf → Settings → (moment : ℕ) → (past : Books) → Heards → List Out → List Coming → Bool
are_answered c s n past heard os [] = true
are_answered c s n past heard os (x ∷ xs) = is_answered c s n past heard os x && are_answered c s n past heard os xs

-- so it is of all that came in a row, unless they are excused
abbrev pub are_prompt : Conf → Settings → (moment : ℕ) → (past : Books) → Heards → List Out → (excused : Bool) → List Coming → Bool
are_prompt c s n past heard os true xs = true
are_prompt c s n past heard os false xs = are_answered c s n past heard os xs

abbrev pub is_stream : Option Place → Bool
is_stream None = false
is_stream (Some x) = same_via x.via Stream

-- the place where something came is a stream that was closed in the row, and its read timer was due then
abbrev pub excused_in : (c : Conf) → Option Brought → (moment : ℕ) → (past : Ledger) → Timers → (here : Ledger) → Here → Bool
excused_in c None n past t here o = false
excused_in c (Some b) n past t here o = is_passed_over c b.place n past t o && is_stream (entry_at b.place here.books.places)

abbrev pub prompt_seen : Conf → Settings → (past : Ledger) → Timers → Heards → (here : Ledger) → Here → List Out → List Coming → Bool
prompt_seen c s past t heard here o os xs = are_prompt c s here.books.requests.clock past.books heard os (excused_in c here.frames.brought here.books.requests.clock past t here o) xs

-- the answer, of every history that the tables know, for a row behind it
abbrev pub TellsPrompt : Conf → Settings → (past : Ledger) → Timers → Heards → (here : Ledger) → Here → Row → List Coming → Bool → Type 0
TellsPrompt c s past t heard here o row xs b =
    (x : History) → ledger.Known x past → timers.Known c x t → heards.Known c x heard → ledger.Known (after row x) here → here_outs.Known past.books.places (after row x) o → AllComing c None x (after row x) xs
    → Tells (Prompt c s x row) b
