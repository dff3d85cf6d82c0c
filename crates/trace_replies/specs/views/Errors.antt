-- Whether an error was given to an earlier request not long ago.
use Rattle.std.specs.Prelude.{◌≡◌, ◌<◌, ◌≤◌, ◌+◌, ℕ, Bool, false, Err}
use Rattle.client_request.specs.Request.{Request}
use Rattle.client_request.specs.declared.error.Error.{Error}
use Rattle.client_request.specs.declared.event.What.{What}
use Rattle.right_trace.specs.Trace.{History, Conf}
use Rattle.right_trace.specs.Time.{now, newest, Ever}
use Rattle.right_trace.specs.{Settings.Settings, Replies.CoversLater}
use Rattle.right_trace.specs.Keys.{KeysCover, key_of}
use Rattle.right_trace.specs.Errors.{is_deadline, IsErrorReply, IsKeptError}
use Rattle.trace_tables.specs.declared.requests.Requests.{Requests}
use Rattle.trace_tables.specs.Requests as requests
use Rattle.trace_points.specs.questions.Outs.{Tells}
use Rattle.trace_replies.specs.declared.given.earlier.Earlier.{Earlier}
use Rattle.trace_replies.specs.given.Earlier.{Table}
use Rattle.trace_replies.specs.given.Earlier as earlier

-- At moment n an earlier reply, to q, is this error, and may be given to request k, which is r.
pub record GivesError (s : Settings) (k n : ℕ) (x : Error) (q r : Request) (e : Earlier) : Type 0 where
  pub below : e.request < k
  pub covers : KeysCover (key_of q) (key_of r)
  pub is : e.outcome ≡ Err x
  pub recent : n ≤ e.moment + s.transport_failure_duration

abbrev pub IsRecent : Settings → (n : ℕ) → Earlier → Type 0
IsRecent s n e = n ≤ e.moment + s.transport_failure_duration

-- an earlier reply is an error that may be given to request k
pub record IsFound (c : Conf) (s : Settings) (k : ℕ) (x : Error) (h : History) : Type 0 where
  pub number : ℕ
  pub first : Request
  pub request : Request
  pub earlier : CoversLater k number first request h
  pub moment : ℕ
  pub got : Ever (IsErrorReply c s number x moment) h
  pub recent : now h ≤ moment + s.transport_failure_duration

-- the answers, of every history that the tables know
abbrev pub TellsFound : Settings → (k : ℕ) → Error → Requests → Table → Bool → Type 0
TellsFound s k x r t b = (c : Conf) (h : History) → is_deadline x ≡ false → requests.Known h r → earlier.Known c s h t → Tells (IsFound c s k x h) b

abbrev pub TellsKept : Settings → (k : ℕ) → Error → What → Requests → Table → Bool → Type 0
TellsKept s k x w r t b = (c : Conf) (h : History) → newest h ≡ w → requests.Known h r → earlier.Known c s h t → Tells (IsKeptError c s x k h) b
