-- What a forward pass keeps of messages that came for requests in rows that are done and match them, by request, the newest first.
use Rattle.std.specs.Prelude.{◌≡◌, ◌⊎◌, ℕ, ◌&&◌, ◌||◌, not, Bool, true, false, if◌then◌else◌, List, [], ◌∷◌, None}
use Rattle.client_request.specs.declared.event.Row.{Row}
use Rattle.right_trace.specs.Trace.{History, Conf, after}
use Rattle.right_trace.specs.Time.{newest, row_before, EarlierRow, OfRow}
use Rattle.right_trace.specs.{Messages.Octets, Parts.IsIn}
use Rattle.right_trace.specs.Coming.{CameFor, SomeCame, CameFirst}
use Rattle.message_judging.specs.matching.Shapes.{same_octets}
use Rattle.trace_tables.specs.Lists.{listed, adds}
use Rattle.trace_tables.specs.declared.frames.here.Here.{Here}
use Rattle.trace_tables.specs.declared.frames.ledger.Ledger.{Ledger}
use Rattle.trace_tables.specs.frames.Ledger as ledger
use Rattle.trace_tables.specs.frames.Here as here_outs
use Rattle.trace_points.specs.declared.due.timers.Timers.{Timers}
use Rattle.trace_points.specs.due.Timers as timers
use Rattle.trace_points.specs.declared.exchanges.coming.Coming.{Coming}
use Rattle.trace_points.specs.exchanges.Coming.{AllComing}
use Rattle.trace_errors.specs.promptness.Prompt.{matches, excused_in}
use Rattle.trace_points.specs.questions.Outs.{Tells}
use Rattle.trace_replies.specs.declared.firsts.firsts.{Arrived.Arrived, News.News}

abbrev pub Firsts : Type 0
Firsts = List (ℕ × List Arrived)

-- one of these was not to be passed over
abbrev pub some_counts : List Arrived → Bool
some_counts [] = false
some_counts (x ∷ xs) = x.counts || some_counts xs

abbrev pub counted : (k : ℕ) → Firsts → Bool
counted k t = some_counts (listed k t)

-- one of these is this message; or it is, and no other counted in a row before its own
abbrev pub some_is : Octets → List Arrived → Bool
some_is m [] = false
some_is m (x ∷ xs) = same_octets x.message m || some_is m xs

abbrev pub some_first : Octets → List Arrived → Bool
some_first m [] = false
some_first m (x ∷ xs) = (x.first && same_octets x.message m) || some_first m xs

-- what comes in a row, where what came before is known
abbrev pub news_of : (counts : Bool) → Firsts → Coming → News
news_of counts t x = record { request = x.request; arrived = record { message = x.message; counts = counts; first = not (counted x.request t) } }

abbrev pub all_news : (counts : Bool) → Firsts → List Coming → List News
all_news counts t [] = []
all_news counts t (x ∷ xs) = if matches x then news_of counts t x ∷ all_news counts t xs else all_news counts t xs

abbrev pub add_all : List News → Firsts → Firsts
add_all [] t = t
add_all (n ∷ ns) t = add_all ns (adds n.request n.arrived t)

-- what a row that is done makes of it, by what came in it
abbrev pub after_row : (excused : Bool) → List Coming → Firsts → Firsts
after_row excused xs t = add_all (all_news (not excused) t xs) t

-- in the newest row, which is done here, or in one before
abbrev pub ByRow : (History → Type 0) → History → Type 0
ByRow P h = P h ⊎ EarlierRow P h

-- a message came in the newest row, and none that counts before it
abbrev pub FirstRow : (c : Conf) (k : ℕ) → Octets → History → Type 0
FirstRow c k m e = OfRow (CameFor c k m) e × (EarlierRow (OfRow (SomeCame c k)) e → ⊥)

-- what is kept of a message that came
pub record HasCome (c : Conf) (k : ℕ) (h : History) (x : Arrived) : Type 0 where
  pub came : ByRow (OfRow (CameFor c k x.message)) h
  pub counted : x.counts ≡ true → ByRow (OfRow (SomeCame c k)) h
  pub first : x.first ≡ true → ByRow (FirstRow c k x.message) h

-- What is kept is what the definitions say, where rows are done.
pub record Known (c : Conf) (h : History) (t : Firsts) : Type 0 where
  pub so : (k : ℕ) (x : Arrived) → IsIn x (listed k t) → HasCome c k h x
  pub came : (k : ℕ) (m : Octets) → ByRow (OfRow (CameFor c k m)) h → (x : Arrived) × IsIn x (listed k t) × (x.message ≡ m)
  pub counted : (k : ℕ) → ByRow (OfRow (SomeCame c k)) h → (x : Arrived) × IsIn x (listed k t) × (x.counts ≡ true)
  pub first : (k : ℕ) (m : Octets) → ByRow (FirstRow c k m) h → (x : Arrived) × IsIn x (listed k t) × (x.message ≡ m) × (x.first ≡ true)

-- it is known before the first row, and goes on over rows: `l` is the ledger before the row, and `l'` that behind it
pub record GoesOn : Type 0 where
  pub begins : (c : Conf) → Known c [] []
  pub row : (c : Conf) (past : History) (row : Row) (l l' : Ledger) (t : Timers) (o : Here) (xs : List Coming) (f : Firsts) → ledger.Known past l → ledger.Known (after row past) l' → timers.Known c past t
      → here_outs.Known l.books.places (after row past) o → AllComing c None past (after row past) xs → Known c past f
      → Known c (after row past) (after_row (excused_in c l'.frames.brought l'.books.requests.clock l t l' o) xs f)

-- a message came for a request in a row before this one
abbrev pub earlier_seen : (k : ℕ) → Octets → Firsts → Bool
earlier_seen k m f = some_is m (listed k f)

-- it was the first, where it is known whether it came in this row
abbrev pub first_seen : (k : ℕ) → Octets → (came : Bool) → Firsts → Bool
first_seen k m came f = (came && not (counted k f)) || some_first m (listed k f)

-- the answers, at a point of a row whose rows before the table knows
abbrev pub TellsEarlier : Conf → (k : ℕ) → Octets → Firsts → Bool → Type 0
TellsEarlier c k m f b = (h : History) → Known c (row_before h) f → Tells (EarlierRow (OfRow (CameFor c k m)) h) b

abbrev pub TellsFirst : Conf → (k : ℕ) → Octets → (came : Bool) → Firsts → Bool → Type 0
TellsFirst c k m came f b = (h : History) → Known c (row_before h) f → Tells (CameFor c k m (row_before h) (newest h) h) came → Tells (CameFirst c k m (row_before h) (newest h) h) b
