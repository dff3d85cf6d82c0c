-- Whether a request could be given a message that fails, in whose place an expired one may stand (RFC 8767 4).
use Rattle.std.specs.Prelude.{◌≡◌, ℕ, ◌==◌, ◌&&◌, ◌||◌, not, Bool, true, Some, List, Ok}
use Rattle.std.specs.List.{list_any}
use Rattle.client_request.specs.declared.event.What.{What}
use Rattle.right_trace.specs.Trace.{History, Conf}
use Rattle.right_trace.specs.Time.{newest, row_before}
use Rattle.right_trace.specs.{Messages.Octets, Settings.Settings, Validity.is_deferred, Views.is_failing_message, Owed.AllAreDone, Errors.FailsSo}
use Rattle.trace_tables.specs.Lists.{listed}
use Rattle.trace_points.specs.declared.exchanges.coming.Coming.{Coming}
use Rattle.trace_points.specs.exchanges.Coming.{AllComing}
use Rattle.trace_errors.specs.promptness.Prompt.{matches}
use Rattle.trace_points.specs.questions.Outs.{Tells}
use Rattle.trace_replies.specs.declared.firsts.firsts.Arrived.{Arrived}
use Rattle.trace_replies.specs.firsts.Firsts.{Firsts, counted, Known}

-- Request k could be given a message that fails: it is fresh, and where it is deferred every server is done with the request, and it is the first that came.
pub record MessageFails (c : Conf) (s : Settings) (k : ℕ) (past : History) (w : What) (h : History) : Type 0 where
  pub message : Octets
  pub fails : is_failing_message message ≡ true
  pub cause : FailsSo c s k past w h (Ok message)

-- what came is for request k, matches it, and fails
abbrev pub fails_for : (k : ℕ) → Coming → Bool
fails_for k x = (x.request == k) && (matches x && is_failing_message x.message)

-- and it is given whatever other servers say
abbrev pub fails_now : Settings → (k : ℕ) → Coming → Bool
fails_now s k x = fails_for k x && not (is_deferred s x.message)

-- what came in a row before was the first, fails, and is deferred
abbrev pub failed_first : Settings → Arrived → Bool
failed_first s x = x.first && (is_failing_message x.message && is_deferred s x.message)

-- where it is known whether every server is done with the request, by what came for it in the row and before
abbrev pub message_fails : Settings → (k : ℕ) → (done : Bool) → List Coming → Firsts → Bool
message_fails s k done xs f =
    list_any (fails_now s k) xs
    || (done && ((list_any (fails_for k) xs && not (counted k f)) || list_any (failed_first s) (listed k f)))

-- the answer, at a point of a row whose rows before the table knows
abbrev pub TellsMessageFails : Settings → (k : ℕ) → (done : Bool) → List Coming → Firsts → Bool → Type 0
TellsMessageFails s k done xs f b =
    (c : Conf) (h : History) → AllComing c (Some k) (row_before h) h xs → Known c (row_before h) f → Tells (AllAreDone c k (row_before h) (newest h) h) done
    → Tells (MessageFails c s k (row_before h) (newest h) h) b
