-- What holds of a trace whose rows are right so far, and of which what is kept makes use.
use Rattle.std.specs.Prelude.{◌≡◌, ℕ, None, []}
use Rattle.client_request.specs.declared.event.{Row.Row, Via.Via}
use Rattle.right_trace.specs.Trace.{History, Conf, after}
use Rattle.right_trace.specs.{Settings.Settings, Causes.named, Right.RowRight}
use Rattle.right_trace.specs.Requests.{asking, start}

-- a request that was not asked was not sent, and not handed to a server
pub record AskedFirst (h : History) : Type 0 where
  pub unsent : (k p : ℕ) → asking k h ≡ None → named p k h ≡ []
  pub unstarted : (k s : ℕ) (v : Via) → asking k h ≡ None → start k s v h ≡ None

-- so it is before the first row, and behind each row that is right
pub record RightRowsAsk : Type 0 where
  pub begins : AskedFirst []
  pub row : (c : Conf) (s : Settings) (past : History) (row : Row) → RowRight c s past row → AskedFirst past → AskedFirst (after row past)
