-- What verdicts are worth.
use Rattle.std.specs.Prelude.{◌≡◌, List, [], map}
use Rattle.client_request.specs.declared.event.{Event.Event, Row.Row}
use Rattle.right_trace.specs.Trace.{History, Conf}
use Rattle.right_trace.specs.Settings.{Settings}
use Rattle.right_trace.specs.Right as right
use Rattle.trace_judge.specs.clauses.Verdicts.{AllKept, Verdict, IsVerdict}

-- the rows have these events
abbrev pub HaveEvents : List Event → List Row → Type 0
HaveEvents es rows = map (λ row. row.event) rows ≡ es

-- All clauses are kept exactly where the rows have the script's events and the trace is right.
pub record KeptIsRight : Type 0 where
  pub kept_right : (c : Conf) (s : Settings) (es : List Event) (rows : List Row) → AllKept c s [] es rows → HaveEvents es rows × right.Right c s rows
  pub right_kept : (c : Conf) (s : Settings) (es : List Event) (rows : List Row) → HaveEvents es rows → right.Right c s rows → AllKept c s [] es rows

-- No two verdicts are so.
abbrev pub OneVerdict : Type 0
OneVerdict = (c : Conf) (s : Settings) (es : List Event) (rows : List Row) (a b : Verdict) → IsVerdict a c s [] es rows → IsVerdict b c s [] es rows → a ≡ b
