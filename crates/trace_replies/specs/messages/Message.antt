-- Whether a message that is put as a reply is right.
use Rattle.std.specs.Prelude.{◌≡◌, ℕ, ◌&&◌, ◌||◌, not, Bool, true, ◌∷◌, Result}
use Rattle.client_request.specs.declared.error.Error.{Error}
use Rattle.client_request.specs.declared.event.{Out.TheVariants.Stale, What.What}
use Rattle.right_trace.specs.Trace.{History, Conf, Put}
use Rattle.right_trace.specs.Time.{newest, row_before, EarlierRow, OfRow}
use Rattle.right_trace.specs.{Messages.Octets, Settings.Settings, Validity.is_deferred, Owed.AllAreDone, Stale.MessageIsRight}
use Rattle.right_trace.specs.Coming.{CameFor, CameFirst}
use Rattle.right_trace.specs.Errors.{is_failing, FailsSo}
use Rattle.trace_tables.specs.declared.books.Books.{Books}
use Rattle.trace_tables.specs.Books as books
use Rattle.trace_tables.specs.Requests.{marked_seen}
use Rattle.trace_tables.specs.declared.frames.ledger.Ledger.{Ledger}
use Rattle.trace_tables.specs.frames.Ledger as ledger
use Rattle.trace_points.specs.exchanges.Open.{Open}
use Rattle.trace_points.specs.exchanges.Open as open_sends
use Rattle.trace_points.specs.questions.Outs.{Tells}
use Rattle.trace_replies.specs.given.Earlier.{Table, IsFreshHere}
use Rattle.trace_replies.specs.given.Earlier as earlier
use Rattle.trace_replies.specs.declared.messages.message.{Told.Told, Judged.Judged}

-- a result for which an expired message may stand has its cause here
pub record FailsHere (c : Conf) (s : Settings) (k : ℕ) (past : History) (w : What) (h : History) : Type 0 where
  pub failed : Result Octets Error
  pub fails : is_failing failed ≡ true
  pub cause : FailsSo c s k past w h failed

-- a deferred message may be given: every server is done with its request, and it was the first that came
abbrev pub IsLast : (c : Conf) (k : ℕ) → Octets → (past : History) → What → History → Type 0
IsLast c k m past w h = AllAreDone c k past w h × CameFirst c k m past w h

-- what is told from elsewhere is so, of a deferred message and of a reply that is marked as stale
pub record IsTold (c : Conf) (s : Settings) (k : ℕ) (m : Octets) (past h : History) (t : Told) : Type 0 where
  pub fails : (before : History) → h ≡ (Put (Stale k) ∷ before) → Tells (FailsHere c s k past (newest h) before) t.fails
  pub came_earlier : is_deferred s m ≡ true → Tells (EarlierRow (OfRow (CameFor c k m)) h) t.came_earlier
  pub is_last : is_deferred s m ≡ true → Tells (IsLast c k m past (newest h) h) t.is_last

-- the answers
pub record IsJudged (c : Conf) (s : Settings) (k : ℕ) (m : Octets) (past h : History) (j : Judged) : Type 0 where
  pub right : Tells (MessageIsRight c s k m past (newest h) h) j.is_right
  pub fresh : Tells (IsFreshHere c s k m h) j.is_fresh

-- of every two histories that the tables know, where the first is what was before the row of the second
abbrev pub TellsMessage : Conf → Settings → (k : ℕ) → Octets → What → (past : Books) → Open → (here : Ledger) → Table → Told → Judged → Type 0
TellsMessage c s k m w past sent here t told j =
    (x h : History) → row_before h ≡ x → newest h ≡ w → books.Known x past → open_sends.Known c x sent → ledger.Known h here → earlier.Known c s h t → IsTold c s k m x h told → IsJudged c s k m x h j

-- the mark of request k was put last
abbrev pub is_marked_seen : (k : ℕ) → Ledger → Bool
is_marked_seen k l = marked_seen k l.books.requests

-- a message that came for its request is fresh; a deferred one may be that of an earlier row
abbrev pub fresh_seen : (deferred came came_earlier : Bool) → Bool
fresh_seen d a b = a || (d && b)

-- it may be given
abbrev pub last_seen : (deferred is_last : Bool) → Bool
last_seen d b = not d || b
