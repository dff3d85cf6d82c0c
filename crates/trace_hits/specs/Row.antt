-- What a row owes the request that it asks, and whether it is so.
use Rattle.std.specs.Prelude.{◌≡◌, ℕ, ◌+◌, ◌-◌, ◌*◌, ◌&&◌, not, nat_le, nat_lt, max, is_ok, Bool, false, List, Option, Some, None, Result, Ok, Err}
use Rattle.client_request.specs.{Request.Request, Composed.composed}
use Rattle.client_request.specs.declared.error.Error.{Error}
use Rattle.client_request.specs.declared.event.{Out.Out, What.TheVariants.Ask, Row.Row}
use Rattle.client_settings.specs.Settings.{CacheSettings}
use Rattle.right_trace.specs.{Messages.Octets, Hit.Hits, Keys.Key}
use Rattle.trace_hits.specs.declared.course.Course.{Course}
use Rattle.trace_hits.specs.declared.kept.Kept.{Kept}
use Rattle.trace_hits.specs.declared.point.Point.{Point}
use Rattle.trace_hits.specs.declared.question.Question.{Question}
use Rattle.trace_hits.specs.Kept.{TellsGivenTo}
use Rattle.trace_hits.specs.Outs.{reply_to, others, is_handed, has_mark, all_spare}
use Rattle.trace_hits.specs.Rows.{Owed, Left, TellsAt}

-- how many entries a cache has room for
abbrev pub room_of : CacheSettings → ℕ
room_of c = max 1 c.max_cache_entries

-- for how long a reply has been kept
abbrev pub age_of : Point → Kept → ℕ
age_of p e = p.requests.clock - e.moment

-- few enough requests and replies came since
abbrev pub is_few : CacheSettings → Point → Kept → (k : ℕ) → List Out → Bool
is_few c p e k os = nat_lt (3 * (k - e.asked) + ((p.replied - e.replied) + others k os)) (room_of c)

-- request k, which is r and has this key, must be answered by the view of this
abbrev pub must_hit : CacheSettings → Point → Kept → Key → Request → (k : ℕ) → List Out → Bool
must_hit c p e its r k os = is_ok (composed r) && (nat_le (age_of p e) e.validity && (is_few c p e k os && all_spare p.requests.askings its k None os))

-- the answer whether a reply is the view of a kept message
abbrev pub TellsViewed : Question → (age : ℕ) → (kept : Octets) → Option (Result Octets Error) → Bool → Type 0
TellsViewed q age kept (Some (Ok y)) b = TellsGivenTo q age kept y b
TellsViewed q age kept (Some (Err e)) b = b ≡ false
TellsViewed q age kept None b = b ≡ false

abbrev pub misses : (must viewed handed marked : Bool) → Bool
misses must viewed handed marked = must && not (viewed && (not handed && not marked))

-- the answer by this reply
pub record MissesBy (c : CacheSettings) (p : Point) (e : Kept) (q : Question) (r : Request) (os : List Out) (k : ℕ) (b : Bool) : Type 0 where
  pub viewed : Bool
  pub tells : TellsViewed q (age_of p e) e.message (reply_to k os) viewed
  pub is : b ≡ misses (must_hit c p e q.key r k os) viewed (is_handed k os) (has_mark k os)

abbrev pub IsMissedOf : CacheSettings → Point → Kept → Question → Request → List Out → Bool → Type 0
IsMissedOf c p e q r os b = MissesBy c p e q r os (p.requests.asked - 1) b

-- what a row owes: to hit; and nothing is asked of the rows that are left
abbrev pub Hit : CacheSettings → Owed
Hit cache c s x row rows = Hits c s composed (room_of cache) x row

abbrev pub Whatever : Left
Whatever c s x rows = Unit {0}

-- the answer, of each row that asks this and has these outs
abbrev pub TellsMissed : CacheSettings → Course → Request → List Out → Bool → Type 0
TellsMissed cache t r os b = (row : Row) → row.event.what ≡ Ask r → row.outs ≡ os → TellsAt (Hit cache) Whatever cache t row b

abbrev pub TellsRow : CacheSettings → Course → Row → Bool → Type 0
TellsRow cache t row b = TellsAt (Hit cache) Whatever cache t row b
