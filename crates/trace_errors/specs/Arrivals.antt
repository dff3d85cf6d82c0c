-- What a forward pass keeps of messages that came in rows that are done: for whom, and those that have no validity.
use Rattle.std.specs.Prelude.{◌≡◌, ℕ, ◌&&◌, not, Bool, true, false, if◌then◌else◌, is_some, List, [], ◌∷◌, Option, Some, None}
use Rattle.number_table.specs.Entries.{puts, entry_at}
use Rattle.client_request.specs.declared.event.Row.{Row}
use Rattle.right_trace.specs.Trace.{History, Conf, after}
use Rattle.right_trace.specs.{Time.OfRow, Settings.Settings, Messages.Octets, Requests.Asking, Keys.is_cacheable, Coming.SomeCame, Errors.CameWithoutValidity}
use Rattle.right_trace.specs.Validity.{validity_of_message, is_deferred}
use Rattle.trace_tables.specs.declared.frames.here.Here.{Here}
use Rattle.trace_tables.specs.declared.frames.ledger.Ledger.{Ledger}
use Rattle.trace_tables.specs.frames.Ledger as ledger
use Rattle.trace_tables.specs.frames.Here as here_outs
use Rattle.trace_points.specs.declared.due.timers.Timers.{Timers}
use Rattle.trace_points.specs.due.Timers as timers
use Rattle.trace_points.specs.declared.exchanges.coming.Coming.{Coming}
use Rattle.trace_points.specs.exchanges.Coming.{AllComing}
use Rattle.trace_errors.specs.promptness.Prompt.{matches, excused_in}
use Rattle.trace_errors.specs.declared.arrivals.Arrivals.{Arrivals}
use Rattle.trace_errors.specs.Rows.{ByRow}

-- requests, each with nothing
abbrev pub Marked : Type 0
Marked = List (ℕ × Unit {0})

abbrev pub nothing : Arrivals
nothing = record { came = []; unkept = [] }

abbrev pub marks_if : Bool → (k : ℕ) → Marked → Marked
marks_if b k t = if b then puts k tt t else t

-- the request of each of these that passes a test
abbrev pub mark_all : (Coming → Bool) → List Coming → Marked → Marked
mark_all f [] t = t
mark_all f (x ∷ xs) t = mark_all f xs (marks_if (f x) x.request t)

-- unless what came is excused
abbrev pub come : (excused : Bool) → List Coming → Marked → Marked
come true xs t = t
come false xs t = mark_all matches xs t

-- a message for a request that was asked so may be kept, but has no validity
abbrev pub lacks_validity : Settings → Octets → Option Asking → Bool
lacks_validity s m None = false
lacks_validity s m (Some a) = is_cacheable a.request && not (is_some (validity_of_message s m))

-- it matches and has none
abbrev pub is_unkept : Settings → List (ℕ × Asking) → Coming → Bool
is_unkept s askings x = matches x && lacks_validity s x.message (entry_at x.request askings)

abbrev pub is_unkept_later : Settings → List (ℕ × Asking) → Coming → Bool
is_unkept_later s askings x = is_deferred s x.message && is_unkept s askings x

-- what a row makes of it, over what was known before it and what is known behind it, and by what came in it
abbrev pub after_row : (c : Conf) → Settings → (past : Ledger) → Timers → (here : Ledger) → Here → List Coming → Arrivals → Arrivals
after_row c s l t l' o xs a = record {
  came = come (excused_in c l'.frames.brought l'.books.requests.clock l t l' o) xs a.came;
  unkept = mark_all (is_unkept_later s l.books.requests.askings) xs a.unkept;
}

abbrev pub is_marked : (k : ℕ) → Marked → Bool
is_marked k t = is_some (entry_at k t)

-- a message that is deferred came for a request and has no validity
pub record UnkeptCame (c : Conf) (s : Settings) (k : ℕ) (h : History) : Type 0 where
  pub message : Octets
  pub deferred : is_deferred s message ≡ true
  pub came : ByRow (OfRow (CameWithoutValidity c s k message)) h

-- what is kept is what the definitions say, where rows are done
pub record Known (c : Conf) (s : Settings) (h : History) (t : Arrivals) : Type 0 where
  pub came_so : (k : ℕ) → is_marked k t.came ≡ true → ByRow (OfRow (SomeCame c k)) h
  pub so_came : (k : ℕ) → ByRow (OfRow (SomeCame c k)) h → is_marked k t.came ≡ true
  pub unkept_so : (k : ℕ) → is_marked k t.unkept ≡ true → UnkeptCame c s k h
  pub so_unkept : (k : ℕ) → UnkeptCame c s k h → is_marked k t.unkept ≡ true

-- it is known before the first row, and goes on over rows
pub record GoesOn : Type 0 where
  pub begins : (c : Conf) (s : Settings) → Known c s [] nothing
  pub row : (c : Conf) (s : Settings) (past : History) (row : Row) (l l' : Ledger) (t : Timers) (o : Here) (xs : List Coming) (a : Arrivals) → ledger.Known past l → ledger.Known (after row past) l' → timers.Known c past t
      → here_outs.Known l.books.places (after row past) o → AllComing c None past (after row past) xs → Known c s past a
      → Known c s (after row past) (after_row c s l t l' o xs a)
