-- The first row whose request should have been answered from the cache.
use Rattle.std.specs.Prelude.{ℕ, Bool, List, [], Option, Some, None}
use Rattle.client_request.specs.Composed.{composed}
use Rattle.client_request.specs.declared.event.Row.{Row}
use Rattle.client_settings.specs.Settings.{CacheSettings}
use Rattle.right_trace.specs.Trace.{History, Conf}
use Rattle.right_trace.specs.{Settings.Settings, Right.Right, Hit.AllHit}
use Rattle.trace_hits.specs.declared.course.Course.{Course}
use Rattle.trace_hits.specs.{Known.HasCache, Rows.FailsAt}
use Rattle.trace_hits.specs.Row.{room_of, Hit, Whatever}
use Rattle.trace_hits.specs.Rows as rows

-- this is the first row that does not hit, or there is none
abbrev pub IsMissedHit : Option ℕ → CacheSettings → Conf → Settings → (past : History) → List Row → Type 0
IsMissedHit None cache c s past rows = AllHit c s composed (room_of cache) past rows
IsMissedHit (Some n) cache c s past rows = FailsAt (Hit cache) n c s past rows

-- The answer, which is asked of right traces alone: of every configuration, and of all settings with this cache, by which the rows are right.
abbrev pub TellsMissedHit : CacheSettings → List Row → Option ℕ → Type 0
TellsMissedHit cache rows o = (c : Conf) (s : Settings) → HasCache cache s → Right c s rows → IsMissedHit o cache c s [] rows

abbrev pub Steps : CacheSettings → Row → (old new : Course) → Bool → Type 0
Steps cache row old new b = rows.Steps (Hit cache) Whatever cache row old new b
