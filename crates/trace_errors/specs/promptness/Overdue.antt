-- Why a request is overdue, as walks find it.
use Rattle.std.specs.Prelude.{ℕ, ◌+◌, ◌==◌, ◌&&◌, ◌||◌, not, nat_le, Bool, false, List, [], ◌∷◌, Option, Some, None}
use Rattle.number_table.specs.Entries.{entry_at}
use Rattle.client_request.specs.declared.event.Via.TheVariants.{Stream}
use Rattle.right_trace.specs.Time.{read_timeout, stream_timeout, max_tries}
use Rattle.right_trace.specs.Trace.{History, Conf}
use Rattle.right_trace.specs.{Settings.Settings, Requests.same_via, Right.IsOverdue}
use Rattle.right_trace.specs.Causes.{Try, TriesAreUp, StreamIsSilent}
use Rattle.trace_tables.specs.declared.books.Books.{Books}
use Rattle.trace_tables.specs.declared.places.Place.{Place}
use Rattle.trace_tables.specs.declared.requests.{Requests.Requests, Started.Started}
use Rattle.trace_tables.specs.declared.sends.Tried.{Tried}
use Rattle.trace_tables.specs.Requests.{start_seen, past_at}
use Rattle.trace_tables.specs.Sends.{count_at, last_at}
use Rattle.trace_tables.specs.Lists.{listed}
use Rattle.trace_tables.specs.Books as books
use Rattle.trace_points.specs.questions.{Searching.live_seen, Outs.Tells}
use Rattle.trace_errors.specs.promptness.Heard.{Heards, heard_seen}
use Rattle.trace_errors.specs.promptness.Heard as heards

-- a send is a read timeout old, and its place was live
abbrev pub is_lost : (c : Conf) (moment : ℕ) → (past : List (ℕ × Place)) → Option Try → Bool
is_lost c n past None = false
is_lost c n past (Some t) = nat_le (t.moment + read_timeout c) n && live_seen (entry_at t.place past)

-- all sends to a server, of which the last is lost
abbrev pub are_up_at : (c : Conf) (moment : ℕ) → (past : List (ℕ × Place)) → List Tried → (server : ℕ) → Bool
are_up_at c n past all s = (count_at s all == max_tries c) && is_lost c n past (last_at s all)

-- so it is at the server of some send of these
abbrev pub are_up_among : (c : Conf) (moment : ℕ) → (past : List (ℕ × Place)) → (all some : List Tried) → Bool
are_up_among c n past all [] = false
are_up_among c n past all (x ∷ xs) = are_up_at c n past all x.server || are_up_among c n past all xs

abbrev pub tries_are_up : (c : Conf) (k moment : ℕ) → (past : List (ℕ × Place)) → (here : Books) → Bool
tries_are_up c k n past here = are_up_among c n past (listed k here.sends.tries) (listed k here.sends.tries)

-- the time of a request by stream is over since a start
abbrev pub is_over : (c : Conf) (moment : ℕ) → Option ℕ → Bool
is_over c n None = false
is_over c n (Some t) = nat_le (t + stream_timeout c) n

-- a request waits so long for a server that it was handed to by stream, from which nothing came
abbrev pub is_silent_at : (c : Conf) (k moment : ℕ) → Requests → Heards → Started → Bool
is_silent_at c k n r heard x = same_via x.via Stream && (is_over c n (start_seen k x.server Stream r) && not (heard_seen k x.server heard))

abbrev pub is_silent_among : (c : Conf) (k moment : ℕ) → Requests → Heards → List Started → Bool
is_silent_among c k n r heard [] = false
is_silent_among c k n r heard (x ∷ xs) = is_silent_at c k n r heard x || is_silent_among c k n r heard xs

abbrev pub stream_is_silent : (c : Conf) (k moment : ℕ) → Requests → Heards → Bool
stream_is_silent c k n r heard = is_silent_among c k n r heard (listed k r.starts)

abbrev pub is_overdue : Conf → Settings → (k moment : ℕ) → (past : Books) → Heards → Bool
is_overdue c s k n past heard =
    past_at c.timeout n (entry_at k past.requests.askings)
    || (not s.defers_errors && (tries_are_up c k n past.places past || stream_is_silent c k n past.requests heard))

-- the answers, of every history that the books know
abbrev pub TellsTries : (c : Conf) (k moment : ℕ) → (past here : Books) → Bool → Type 0
TellsTries c k n past here b = (x h : History) → books.Known x past → books.Known h here → Tells (TriesAreUp c k n x h) b

abbrev pub TellsSilence : Conf → (k moment : ℕ) → Books → Heards → Bool → Type 0
TellsSilence c k n past heard b = (x : History) → books.Known x past → heards.Known c x heard → Tells (StreamIsSilent c k n x) b

abbrev pub TellsOverdue : Conf → Settings → (k moment : ℕ) → Books → Heards → Bool → Type 0
TellsOverdue c s k n past heard b = (x : History) → books.Known x past → heards.Known c x heard → Tells (IsOverdue c s k n x) b
