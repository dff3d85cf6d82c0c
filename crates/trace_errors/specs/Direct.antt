-- Whether an error has a cause that is no kept error, by the kind of error.
use Rattle.std.specs.Prelude.{◌≡◌, ℕ, ◌==◌, ◌&&◌, ◌||◌, ◌⊎◌, Bool, true, false, length, List, [], ◌∷◌, Option}
use Rattle.client_request.specs.declared.error.Error.{Error}
use Rattle.client_request.specs.declared.error.Error.TheVariants as errors
use Rattle.client_request.specs.declared.event.What.{What}
use Rattle.right_trace.specs.Trace.{History, Conf}
use Rattle.right_trace.specs.Time.{newest, row_before}
use Rattle.right_trace.specs.{Settings.Settings, Errors.DirectCause}
use Rattle.right_trace.specs.Requests.{Asking, is_ask}
use Rattle.trace_tables.specs.declared.books.Books.{Books}
use Rattle.trace_tables.specs.Requests.{deadline_seen}
use Rattle.trace_tables.specs.Books as books
use Rattle.trace_points.specs.questions.Outs.{Tells}
use Rattle.trace_points.specs.declared.exchanges.coming.Coming.{Coming}
use Rattle.trace_points.specs.exchanges.Coming.{is_wanted, AllComing}
use Rattle.trace_errors.specs.promptness.Heard.{Heards}
use Rattle.trace_errors.specs.promptness.Heard as heards
use Rattle.trace_errors.specs.{Failures.TellsServer, Earlier.TellsEarlier}
use Rattle.trace_errors.specs.declared.earlier.Earlier.{Earlier}
use Rattle.trace_errors.specs.Arrivals.{is_unkept, is_marked}
use Rattle.trace_errors.specs.Earlier as earlier

-- the row asks request k
abbrev pub asked_here : (k : ℕ) → What → (past : Books) → Bool
asked_here k w past = is_ask w && (past.requests.asked == k)

-- a message came for request k that may be kept and has no validity
abbrev pub some_unkept : Settings → (k : ℕ) → List (ℕ × Asking) → List Coming → Bool
some_unkept s k askings [] = false
some_unkept s k askings (x ∷ xs) = ((x.request == k) && is_unkept s askings x) || some_unkept s k askings xs

-- so it is in this row, or was in one before
abbrev pub IsWithoutValidity : Settings → (past : Books) → Earlier → List Coming → (k : ℕ) → Type 0
IsWithoutValidity s past t xs k = (some_unkept s k past.requests.askings xs ≡ true) ⊎ (is_marked k t.arrivals.unkept ≡ true)

-- the cause of an error that no server gives
abbrev pub HasOther : Conf → Settings → (past : Books) → (here : Books) → Earlier → What → List Coming → (k : ℕ) → Error → Type 0
HasOther c s past here t w xs k errors.TimedOut = deadline_seen c.timeout k here.requests ≡ true
HasOther c s past here t w xs k errors.NoTransportAvailable = (length c.servers ≡ 0) × (asked_here k w past ≡ true)
HasOther c s past here t w xs k errors.MessageParseError = IsWithoutValidity s past t xs k
HasOther c s past here t w xs k _ = ⊥

-- a server gave the error here, or it was deferred and given in a row before
pub record ByServers (c : Conf) (s : Settings) (past : Books) (heard : Heards) (here : Books) (t : Earlier) (w : What) (xs : List Coming) (k : ℕ) (e : Error) (b : Bool) : Type 0 where
  pub now : Bool
  pub before : Bool
  pub told : TellsServer c past heard here w xs k e now
  pub was : TellsEarlier c past heard t k e before
  pub is : b ≡ (now || (s.defers_errors && before))

-- either of both
pub record IsDirect (c : Conf) (s : Settings) (past : Books) (heard : Heards) (here : Books) (t : Earlier) (w : What) (xs : List Coming) (k : ℕ) (e : Error) (b : Bool) : Type 0 where
  pub other : Bool
  pub by_server : Bool
  pub has_other : Tells (HasOther c s past here t w xs k e) other
  pub servers : ByServers c s past heard here t w xs k e by_server
  pub is : b ≡ (other || by_server)

-- the answer, of every two histories that the tables know, the first before the row of the second, where all that came for the request in the row is among these
abbrev pub TellsDirect : Conf → Settings → (past : Books) → Heards → (here : Books) → Earlier → What → List Coming → (k : ℕ) → Error → Bool → Type 0
TellsDirect c s past heard here t w xs k e b =
    (want : Option ℕ) (x h : History) → row_before h ≡ x → newest h ≡ w → books.Known x past → heards.Known c x heard → books.Known h here → earlier.Known c s x t → is_wanted want k ≡ true → AllComing c want x h xs
    → Tells (DirectCause c s k x w h e) b
