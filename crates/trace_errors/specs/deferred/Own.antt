-- Whether an error has a cause of its own: a direct one, and nothing better can come where servers' errors are deferred.
use Rattle.std.specs.Prelude.{◌≡◌, ℕ, ◌==◌, ◌&&◌, ◌||◌, not, Bool, true, false, List, [], ◌∷◌, Option}
use Rattle.client_request.specs.declared.error.Error.{Error}
use Rattle.client_request.specs.declared.event.What.{What}
use Rattle.right_trace.specs.Trace.{History, Conf}
use Rattle.right_trace.specs.Time.{newest, row_before}
use Rattle.right_trace.specs.Settings.{Settings}
use Rattle.right_trace.specs.Errors.{OwnCause, is_of_server}
use Rattle.trace_tables.specs.declared.frames.here.Here.{Here}
use Rattle.trace_tables.specs.declared.frames.ledger.Ledger.{Ledger}
use Rattle.trace_tables.specs.frames.Ledger as ledger
use Rattle.trace_tables.specs.frames.Here as here_outs
use Rattle.trace_points.specs.declared.due.timers.Timers.{Timers}
use Rattle.trace_points.specs.due.Timers as timers
use Rattle.trace_points.specs.questions.Outs.{Tells}
use Rattle.trace_points.specs.declared.exchanges.coming.Coming.{Coming}
use Rattle.trace_points.specs.exchanges.Coming.{is_wanted, AllComing}
use Rattle.trace_points.specs.exchanges.Open.{Open}
use Rattle.trace_points.specs.exchanges.Open as open_sends
use Rattle.trace_errors.specs.promptness.Heard.{Heards}
use Rattle.trace_errors.specs.promptness.Heard as heards
use Rattle.trace_errors.specs.promptness.Prompt.{matches, excused_in}
use Rattle.trace_errors.specs.declared.earlier.Earlier.{Earlier}
use Rattle.trace_errors.specs.{Arrivals.is_marked, Direct.TellsDirect}
use Rattle.trace_errors.specs.Earlier as earlier
use Rattle.trace_errors.specs.owed.{Exchanged.Exchanged, Owed.TellsDone}
use Rattle.trace_errors.specs.owed.Exchanged as exchanged

-- a message came for request k and matches it
abbrev pub some_matching : (k : ℕ) → List Coming → Bool
some_matching k [] = false
some_matching k (x ∷ xs) = ((x.request == k) && matches x) || some_matching k xs

-- none came for it that may not be passed over, where those of the row may or not
abbrev pub none_of : (excused : Bool) → Earlier → List Coming → (k : ℕ) → Bool
none_of b e xs k = not (is_marked k e.arrivals.came) && (b || not (some_matching k xs))

abbrev pub none_came : (c : Conf) (past : Ledger) → Timers → (here : Ledger) → Here → Earlier → List Coming → (k : ℕ) → Bool
none_came c l t l' o e xs k = none_of (excused_in c l'.frames.brought l'.books.requests.clock l t l' o) e xs k

-- how an answer is found: a server's error that is deferred may be given only when all is done and nothing came
pub record IsOwn (c : Conf) (s : Settings) (l : Ledger) (t : Timers) (heard : Heards) (l' : Ledger) (o : Here) (e : Earlier) (sent : Open) (x : Exchanged) (w : What) (xs : List Coming) (k : ℕ) (error : Error) (b : Bool) : Type 0 where
  pub direct : Bool
  pub done : Bool
  pub is_direct : TellsDirect c s l.books heard l'.books e w xs k error direct
  pub is_done : TellsDone c k w l.books l' sent x done
  pub is : b ≡ (direct && (not (is_of_server error && s.defers_errors) || (done && none_came c l t l' o e xs k)))

-- the answer, of every two histories that the tables know, the first before the row of the second, where all that came for the request in the row is among these
abbrev pub TellsOwn : Conf → Settings → (past : Ledger) → Timers → Heards → (here : Ledger) → Here → Earlier → Open → Exchanged → What → List Coming → (k : ℕ) → Error → Bool → Type 0
TellsOwn c s l t heard l' o e sent ex w xs k error b =
    (want : Option ℕ) (x h : History) → row_before h ≡ x → newest h ≡ w → ledger.Known x l → timers.Known c x t → heards.Known c x heard → earlier.Known c s x e
    → ledger.Known h l' → here_outs.Known l.books.places h o → open_sends.Known c h sent → exchanged.Known c h ex → is_wanted want k ≡ true → AllComing c want x h xs
    → Tells (OwnCause c s error k x w h) b
