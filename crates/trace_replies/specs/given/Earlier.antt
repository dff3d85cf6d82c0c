-- What a forward pass keeps of replies that later requests may share, by what they answer, the newest first.
use Rattle.std.specs.Prelude.{◌≡◌, ℕ, ◌≤◌, Bool, true, false, not, if◌then◌else◌, List, [], ◌∷◌, Some, Result, Ok, Err}
use Rattle.std.specs.Map.{lookup}
use Rattle.number_table.specs.Entries.{entry_at}
use Rattle.client_request.specs.declared.error.Error.{Error}
use Rattle.client_request.specs.declared.event.{Event.Event, Out.Out, Out.TheVariants.Reply, Row.Row}
use Rattle.right_trace.specs.Trace.{History, Conf, Came, Put, after}
use Rattle.right_trace.specs.Time.{now, newest, row_before, Ever}
use Rattle.right_trace.specs.{Messages.Octets, Settings.Settings, Parts.IsIn}
use Rattle.right_trace.specs.Requests.{Asking, asking, is_marked}
use Rattle.right_trace.specs.Keys.{Key, key_of, is_cacheable}
use Rattle.right_trace.specs.Validity.{is_above, validity_of_message}
use Rattle.right_trace.specs.Replies.{IsFresh, IsFreshReply}
use Rattle.right_trace.specs.Errors.{DirectCause, IsErrorReply, is_deadline}
use Rattle.right_trace.specs.Right.{IsAsked, RowRight}
use Rattle.cache_rules.specs.Key.{same_key}
use Rattle.message_judging.specs.declared.views.serving.Flags.{Flags}
use Rattle.message_judging.specs.views.Serving.{HasFlags}
use Rattle.trace_tables.specs.Lists.{list_or_none}
use Rattle.trace_tables.specs.declared.requests.Requests.{Requests}
use Rattle.trace_tables.specs.Requests as requests
use Rattle.trace_points.specs.questions.Outs.{Tells}
use Rattle.trace_replies.specs.given.Asks.{common}
use Rattle.trace_replies.specs.declared.given.earlier.Earlier.{Earlier}

-- a message, or why there is none
abbrev pub Outcome : Type 0
Outcome = Result Octets Error

-- by question
abbrev pub Table : Type 0
Table = List (Key × List Earlier)

-- the replies to a question
abbrev pub replies_to : Key → Table → List Earlier
replies_to k t = list_or_none (lookup (same_key k) t)

-- a reply more to a question
abbrev pub more : (its : Key) → Earlier → (k : Key) → List Earlier → List Earlier
more its e k es = if same_key its k then e ∷ es else es

abbrev pub Adds : Key → Earlier → (old new : Table) → Type 0
Adds its e old new = (k : Key) → replies_to k new ≡ more its e k (replies_to k old)

abbrev pub Stays : (old new : Table) → Type 0
Stays old new = (k : Key) → replies_to k new ≡ replies_to k old

-- request k is given this, and it is kept if the request's results are
pub data Keeps (r : Requests) (k : ℕ) (x : Outcome) (old new : Table) : Type 0 where
  Kept : (a : Asking) (f : Flags) → entry_at k r.askings ≡ Some a → is_cacheable a.request ≡ true → HasFlags a.request f → Adds (common (key_of a.request)) (record { request = k; flags = f; moment = r.clock; outcome = x }) old new → Keeps r k x old new
  Alone : ((a : Asking) → entry_at k r.askings ≡ Some a → is_cacheable a.request ≡ true → ⊥) → Stays old new → Keeps r k x old new

-- what a request was given at a moment by the newest out: a fresh message, or an error by its own cause
abbrev pub IsGiven : Conf → Settings → (k : ℕ) → Outcome → (moment : ℕ) → History → Type 0
IsGiven c s k (Ok m) n h = IsFreshReply c s k m n h
IsGiven c s k (Err e) n h = IsErrorReply c s k e n h

-- what may be given to others later
abbrev pub is_worth : Settings → Outcome → Bool
is_worth s (Ok m) = is_above (validity_of_message s m)
is_worth s (Err e) = not (is_deadline e)

-- a reply that is put would be fresh or by its own cause
pub record IsFreshHere (c : Conf) (s : Settings) (k : ℕ) (m : Octets) (h : History) : Type 0 where
  pub unmarked : is_marked k h ≡ false
  pub fresh : IsFresh c s k m (row_before h) (newest h) h

abbrev pub IsGivenHere : Conf → Settings → (k : ℕ) → Outcome → History → Type 0
IsGivenHere c s k (Ok m) h = IsFreshHere c s k m h
IsGivenHere c s k (Err e) h = DirectCause c s k (row_before h) (newest h) h e

-- what an out makes of it, where it is known whether a reply is so
pub data Steps (s : Settings) (r : Requests) (o : Out) (given : Bool) (old new : Table) : Type 0 where
  Gives : (k : ℕ) (x : Outcome) → o ≡ Reply k x → given ≡ true → Keeps r k x old new → Steps s r o given old new
  Others : ((k : ℕ) (x : Outcome) → o ≡ Reply k x → given ≡ true → is_worth s x ≡ true → ⊥) → Stays old new → Steps s r o given old new

-- a reply that is kept
pub record IsKept (c : Conf) (s : Settings) (k : Key) (e : Earlier) (h : History) : Type 0 where
  pub asked_as : Asking
  pub asked : asking e.request h ≡ Some asked_as
  pub cacheable : is_cacheable asked_as.request ≡ true
  pub key : common (key_of asked_as.request) ≡ k
  pub flags : HasFlags asked_as.request e.flags
  pub got : Ever (IsGiven c s e.request e.outcome e.moment) h
  pub past : e.moment ≤ now h

-- a reply to a request is among these
pub record IsAmong (a : Asking) (k : ℕ) (x : Outcome) (n : ℕ) (es : List Earlier) : Type 0 where
  pub flags : Flags
  pub has : HasFlags a.request flags
  pub there : IsIn (record { request = k; flags = flags; moment = n; outcome = x }) es

-- none is newer than one before it
abbrev pub AreBefore : (moment : ℕ) → List Earlier → Type 0
AreBefore n [] = Unit {0}
AreBefore n (e ∷ es) = (e.moment ≤ n) × AreBefore e.moment es

-- What is kept is what the definitions say.
pub record Known (c : Conf) (s : Settings) (h : History) (t : Table) : Type 0 where
  pub so : (k : Key) (e : Earlier) → IsIn e (replies_to k t) → IsKept c s k e h
  pub back : (k : ℕ) (x : Outcome) (n : ℕ) (a : Asking) → Ever (IsGiven c s k x n) h → is_worth s x ≡ true → asking k h ≡ Some a → is_cacheable a.request ≡ true → IsAmong a k x n (replies_to (common (key_of a.request)) t)
  pub order : (k : Key) → AreBefore (now h) (replies_to k t)

-- it is told whether a reply that is put is fresh, or by its own cause
abbrev pub IsTold : Conf → Settings → Out → Bool → History → Type 0
IsTold c s o given h = (k : ℕ) (x : Outcome) → o ≡ Reply k x → Tells (IsGivenHere c s k x h) given

-- what was given so far was given to requests that were asked
abbrev pub EachWasAsked : Conf → Settings → History → Type 0
EachWasAsked c s h = (k : ℕ) (x : Outcome) (n : ℕ) → Ever (IsGiven c s k x n) h → IsAsked k h

-- It is known before the first row, and goes on over outs, and over the event of the next row where what was given was given to requests that were asked: so it is behind rows that are right.
pub record GoesOn : Type 0 where
  pub begins : (c : Conf) (s : Settings) → Known c s [] []
  pub rows : (c : Conf) (s : Settings) (past : History) (row : Row) → RowRight c s past row → EachWasAsked c s past → EachWasAsked c s (after row past)
  pub event : (c : Conf) (s : Settings) (h : History) (t : Table) (e : Event) → EachWasAsked c s h → Known c s h t → Known c s (Came e ∷ h) t
  pub out : (c : Conf) (s : Settings) (h : History) (r : Requests) (old new : Table) (o : Out) (given : Bool) → requests.Known h r → IsTold c s o given h → Steps s r o given old new → Known c s h old → Known c s (Put o ∷ h) new
