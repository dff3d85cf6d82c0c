-- What a forward pass keeps of servers that a message came from by stream, by request.
use Rattle.std.specs.Prelude.{◌≡◌, ℕ, ◌==◌, ◌&&◌, ◌||◌, ◌⊎◌, Bool, true, false, if◌then◌else◌, List, [], ◌∷◌, Option, Some, None}
use Rattle.client_request.specs.declared.event.{Row.Row, Via.TheVariants.Stream}
use Rattle.right_trace.specs.Trace.{History, Conf, after}
use Rattle.right_trace.specs.{Time.EarlierRow, Requests.same_via, Causes.Heard}
use Rattle.trace_tables.specs.Lists.{listed, adds}
use Rattle.trace_tables.specs.declared.frames.here.Here.{Here}
use Rattle.trace_tables.specs.declared.frames.frames.Brought.{Brought}
use Rattle.trace_tables.specs.declared.frames.ledger.Ledger.{Ledger}
use Rattle.trace_tables.specs.frames.Ledger as ledger
use Rattle.trace_tables.specs.frames.Here.{closed_seen}
use Rattle.trace_tables.specs.frames.Here as here_outs
use Rattle.trace_points.specs.declared.due.timers.Timers.{Timers}
use Rattle.trace_points.specs.due.Timers as timers
use Rattle.trace_points.specs.due.Due.{read_due}
use Rattle.trace_points.specs.declared.exchanges.coming.Coming.{Coming}
use Rattle.trace_points.specs.exchanges.Coming.{AllComing}

-- the newest server first
abbrev pub Heards : Type 0
Heards = List (ℕ × List ℕ)

abbrev pub is_in : (s : ℕ) → List ℕ → Bool
is_in s [] = false
is_in s (x ∷ xs) = (x == s) || is_in s xs

abbrev pub heard_seen : (k s : ℕ) → Heards → Bool
heard_seen k s t = is_in s (listed k t)

-- a place was closed in the row, and its read timer was due then
abbrev pub is_passed_over : (c : Conf) (p moment : ℕ) → (past : Ledger) → Timers → Here → Bool
is_passed_over c p n past t here = closed_seen p here && read_due c p n past t

-- so it was of the place where something came
abbrev pub passed_over_in : (c : Conf) → Option Brought → (moment : ℕ) → (past : Ledger) → Timers → Here → Bool
passed_over_in c None n past t here = false
passed_over_in c (Some b) n past t here = is_passed_over c b.place n past t here

-- what comes by stream is heard
abbrev pub notes : Coming → Heards → Heards
notes x t = if same_via x.via Stream then adds x.request x.server t else t

abbrev pub notes_all : List Coming → Heards → Heards
notes_all [] t = t
notes_all (x ∷ xs) t = notes_all xs (notes x t)

-- what a row that is done makes of it, by what came in it
abbrev pub after_row : (passed_over : Bool) → List Coming → Heards → Heards
after_row true xs t = t
after_row false xs t = notes_all xs t

-- it was heard by the end of a row
abbrev pub WasHeard : (c : Conf) (k s : ℕ) → History → Type 0
WasHeard c k s h = Heard c k s h ⊎ EarlierRow (Heard c k s) h

-- what is kept is what the definitions say, where rows are done
pub record Known (c : Conf) (h : History) (t : Heards) : Type 0 where
  pub so : (k s : ℕ) → heard_seen k s t ≡ true → WasHeard c k s h
  pub back : (k s : ℕ) → WasHeard c k s h → heard_seen k s t ≡ true

-- it is known before the first row, and goes on over rows: `past` is the ledger before the row, and `here` that behind it
pub record GoesOn : Type 0 where
  pub begins : (c : Conf) → Known c [] []
  pub row : (c : Conf) (past : History) (row : Row) (l l' : Ledger) (t : Timers) (o : Here) (xs : List Coming) (heard : Heards) → ledger.Known past l → ledger.Known (after row past) l' → timers.Known c past t
      → here_outs.Known l.books.places (after row past) o → AllComing c None past (after row past) xs → Known c past heard
      → Known c (after row past) (after_row (passed_over_in c l'.frames.brought l'.books.requests.clock l t o) xs heard)
