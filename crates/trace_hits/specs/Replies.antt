-- What a reply makes of those that must be given again.
use Rattle.std.specs.Prelude.{◌≡◌, ℕ, ◌-◌, Bool, true, false, if◌then◌else◌, Option, Some, None, Result, Ok, Err}
use Rattle.std.specs.Map.{lookup}
use Rattle.number_table.specs.Entries.{entry_at}
use Rattle.client_request.specs.declared.error.Error.{Error}
use Rattle.client_settings.specs.Settings.{CacheSettings}
use Rattle.right_trace.specs.{Messages.Octets, Requests.Asking}
use Rattle.right_trace.specs.Keys.{Key, is_cacheable}
use Rattle.cache_rules.specs.Key.{same_key}
use Rattle.trace_tables.specs.Requests.{marked_seen}
use Rattle.trace_hits.specs.declared.kept.Kept.{Kept}
use Rattle.trace_hits.specs.declared.point.Point.{Point}
use Rattle.trace_hits.specs.declared.question.Question.{Question}
use Rattle.trace_hits.specs.{Question.IsAsked, Point.is_number}
use Rattle.trace_hits.specs.Kept.{Table, begun, TellsGivenTo}

-- the reply to a question
abbrev pub kept_of : Key → Table → Option Kept
kept_of k t = lookup (same_key k) t

-- it is this from now on, and all others stay
abbrev pub Sets : Key → Option Kept → (old new : Table) → Type 0
Sets its o old new = (k : Key) → kept_of k new ≡ (if same_key its k then o else kept_of k old)

-- it stays, or is forgotten
abbrev pub Keeps : Bool → Key → (old new : Table) → Type 0
Keeps b its old new = Sets its (if b then kept_of its old else None) old new

-- all stay
abbrev pub Stays : (old new : Table) → Type 0
Stays old new = (k : Key) → kept_of k new ≡ kept_of k old

-- the answer whether a message is the view of what is kept, of each request that asks this; where nothing is, either answer will do
abbrev pub TellsAgain : Question → (n : ℕ) → Octets → Option Kept → Bool → Type 0
TellsAgain q n m None b = Unit {0}
TellsAgain q n m (Some e) b = TellsGivenTo q (n - e.moment) e.message m b

-- A message is given at moment n in the row of its asking.
pub record Meets (q : Question) (n : ℕ) (m : Octets) (old new : Table) : Type 0 where
  pub again : Bool
  pub tells : TellsAgain q n m (kept_of q.key old) again
  pub keeps : Keeps again q.key old new

-- a message is given to request k, in the row of its asking or not
abbrev pub TakesMessage : CacheSettings → Question → (k : ℕ) → Octets → Point → (here : Bool) → (old new : Table) → Type 0
TakesMessage c q k m p true old new = Meets q p.requests.clock m old new
TakesMessage c q k m p false old new = Sets q.key (begun c k m p) old new

abbrev pub Takes : CacheSettings → Question → (k : ℕ) → Result Octets Error → Point → (old new : Table) → Type 0
Takes c q k (Ok m) p old new = TakesMessage c q k m p (is_number k p.here) old new
Takes c q k (Err e) p old new = Sets q.key None old new

-- request k has this reply at a point: it is marked as stale, or not kept, or changes what is kept
pub data Puts (c : CacheSettings) (k : ℕ) (x : Result Octets Error) (p : Point) (old new : Table) : Type 0 where
  Marked : marked_seen k p.requests ≡ true → Stays old new → Puts c k x p old new
  Unkept : ((a : Asking) → entry_at k p.requests.askings ≡ Some a → is_cacheable a.request ≡ true → ⊥) → Stays old new → Puts c k x p old new
  Taken : (a : Asking) (q : Question) → marked_seen k p.requests ≡ false → entry_at k p.requests.askings ≡ Some a → IsAsked a.request q → Takes c q k x p old new → Puts c k x p old new
