-- What a row owes the request that it asks where what is kept had expired, and whether it is so.
use Rattle.std.specs.Prelude.{◌≡◌, ℕ, ◌+◌, ◌-◌, ◌&&◌, nat_le, nat_lt, Bool, false, List, Option, Some, None}
use Rattle.number_table.specs.Entries.{entry_at}
use Rattle.dns_base.specs.OptRecord.{opt_rcode}
use Rattle.client_request.specs.Request.{Request}
use Rattle.client_request.specs.declared.event.{Out.Out, What.TheVariants.Ask, Row.Row}
use Rattle.client_settings.specs.Settings.{CacheSettings}
use Rattle.right_trace.specs.Trace.{History, Conf}
use Rattle.right_trace.specs.{Settings.Settings, Requests.asks, Keys.Key, Views.tells_of_name, StaleServed.ServesStale, Right.RightAfter}
use Rattle.cache_rules.specs.Validity.{cached_by}
use Rattle.trace_points.specs.declared.pass.pass.Pass.{Pass}
use Rattle.trace_points.specs.pass.Pass as pass
use Rattle.trace_hits.specs.declared.course.Course.{Course}
use Rattle.trace_hits.specs.declared.failures.Failures.{Failures}
use Rattle.trace_hits.specs.declared.kept.Kept.{Kept}
use Rattle.trace_hits.specs.declared.point.Point.{Point}
use Rattle.trace_hits.specs.{Failures.first_failure, Outs.all_spare}
use Rattle.trace_hits.specs.Row.{room_of, age_of, is_few}
use Rattle.trace_hits.specs.Rows.{Owed, TellsAt}

-- request k, which has this key, must not fail while this may serve
abbrev pub must_serve : CacheSettings → Point → Kept → Key → (k : ℕ) → List Out → Bool
must_serve c p e its k os = tells_of_name (opt_rcode e.message) && (nat_lt e.validity (age_of p e) && (is_few c p e k os && all_spare p.requests.askings its k None os))

-- what failed at this moment did so while this may serve
abbrev pub fails_in_time : CacheSettings → Kept → Option ℕ → Bool
fails_in_time c e None = false
fails_in_time c e (Some n) = nat_le n (e.moment + e.validity + c.stale_for)

abbrev pub is_unserved_by : CacheSettings → Failures → Point → Kept → Key → List Out → (k : ℕ) → Bool
is_unserved_by c f p e its os k = must_serve c p e its k os && fails_in_time c e (entry_at k f.moments)

abbrev pub is_unserved : CacheSettings → Failures → Point → Kept → Key → List Out → Bool
is_unserved c f p e its os = is_unserved_by c f p e its os (p.requests.asked - 1)

-- what a row owes: what has expired serves
abbrev pub Serve : CacheSettings → Owed
Serve cache c s x row rows = ServesStale c s (room_of cache) x row rows

-- These rows are right, and it is known when requests first fail in them that are asked from here on.
pub record KnowFailures (cache : CacheSettings) (f : Failures) (c : Conf) (s : Settings) (x : History) (rows : List Row) : Type 0 where
  pub passed : Pass
  pub known : pass.Known c x passed
  pub right : RightAfter c s x rows
  pub failures : (k n : ℕ) → asks x + n ≡ k → first_failure c (cached_by cache) k passed rows ≡ entry_at k f.moments

-- the answer, of each row that asks this and has these outs
abbrev pub TellsUnserved : CacheSettings → Failures → Course → Request → List Out → Bool → Type 0
TellsUnserved cache f t r os b = (row : Row) → row.event.what ≡ Ask r → row.outs ≡ os → TellsAt (Serve cache) (KnowFailures cache f) cache t row b

abbrev pub TellsRow : CacheSettings → Failures → Course → Row → Bool → Type 0
TellsRow cache f t row b = TellsAt (Serve cache) (KnowFailures cache f) cache t row b
