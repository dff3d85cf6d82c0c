-- The first row whose request failed where what has expired should have served it.
use Rattle.std.specs.Prelude.{ℕ, Bool, List, [], Option, Some, None}
use Rattle.client_request.specs.declared.event.Row.{Row}
use Rattle.client_settings.specs.Settings.{CacheSettings}
use Rattle.right_trace.specs.Trace.{History, Conf}
use Rattle.right_trace.specs.{Settings.Settings, Right.Right, StaleServed.AllServeStale}
use Rattle.trace_hits.specs.declared.course.Course.{Course}
use Rattle.trace_hits.specs.declared.failures.Failures.{Failures}
use Rattle.trace_hits.specs.{Known.HasCache, Row.room_of, Rows.FailsAt}
use Rattle.trace_hits.specs.Rows as rows
use Rattle.trace_hits.specs.Serving.{Serve, KnowFailures}

-- this is the first row whose request is not served so, or there is none; its request may fail in a later row
abbrev pub IsMissedStale : Option ℕ → CacheSettings → Conf → Settings → (past : History) → List Row → Type 0
IsMissedStale None cache c s past rows = AllServeStale c s (room_of cache) past rows
IsMissedStale (Some n) cache c s past rows = FailsAt (Serve cache) n c s past rows

-- The answer, which is asked of right traces alone: of a configuration, and of all settings with this cache, by which the rows are right.
abbrev pub TellsMissedStale : Conf → CacheSettings → List Row → Option ℕ → Type 0
TellsMissedStale c cache rows o = (s : Settings) → HasCache cache s → Right c s rows → IsMissedStale o cache c s [] rows

abbrev pub Steps : CacheSettings → Failures → Row → (old new : Course) → Bool → Type 0
Steps cache f row old new b = rows.Steps (Serve cache) (KnowFailures cache f) cache row old new b
