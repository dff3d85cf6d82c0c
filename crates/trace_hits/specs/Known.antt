-- What is kept is what the definitions of a hit speak of.
use Rattle.std.specs.Prelude.{◌≡◌, ℕ, ◌+◌, ◌<◌, ◌≤◌, true, false, Option, Some, None}
use Rattle.client_request.specs.Request.{Request}
use Rattle.client_settings.specs.Settings.{CacheSettings}
use Rattle.right_trace.specs.Trace.{History, Conf}
use Rattle.right_trace.specs.Time.{now, Ever}
use Rattle.right_trace.specs.{Messages.Octets, Settings.Settings, Validity.validity_of_message, Replies.IsFreshReply, Right.IsAsked}
use Rattle.right_trace.specs.Requests.{Asking, asks, asking, replied}
use Rattle.right_trace.specs.Keys.{Key, key_of, is_cacheable}
use Rattle.right_trace.specs.Hit.{asks_since, replies_since, AllAreViews}
use Rattle.cache_rules.specs.Validity.{with_cache}
use Rattle.trace_points.specs.exchanges.Asked.{AskedFirst}
use Rattle.trace_hits.specs.declared.course.Course.{Course}
use Rattle.trace_hits.specs.declared.kept.Kept.{Kept}
use Rattle.trace_hits.specs.Point as point
use Rattle.trace_hits.specs.{Kept.Table, Replies.kept_of}

-- settings with this cache
abbrev pub HasCache : CacheSettings → Settings → Type 0
HasCache cache s = with_cache cache s ≡ s

-- what holds of rows that are right so far, and of which what is kept makes use
pub record BehindRight (h : History) : Type 0 where
  pub first : AskedFirst h
  pub replies : (k : ℕ) → replied k h ≡ true → IsAsked k h

-- A reply that is kept was fresh, and each reply since to the same question was its view, or stale.
pub record IsKept (c : Conf) (s : Settings) (k : Key) (e : Kept) (h : History) : Type 0 where
  pub asked_as : Asking
  pub asked : asking e.request h ≡ Some asked_as
  pub cacheable : is_cacheable asked_as.request ≡ true
  pub key : key_of asked_as.request ≡ k
  pub got : Ever (IsFreshReply c s e.request e.message e.moment) h
  pub validity : validity_of_message s e.message ≡ Some e.validity
  pub above : 0 < e.validity
  pub views : (but : ℕ) → replied but h ≡ false → AllAreViews asked_as.request e.message e.request e.moment but h
  pub asks : e.asked + asks_since e.request h ≡ asks h
  pub replies : e.replied + replies_since e.request h ≡ point.replies_in h
  pub past : e.moment ≤ now h

-- it is what is kept
abbrev pub IsThere : (j : ℕ) → Octets → (moment : ℕ) → Option Kept → Type 0
IsThere j m n None = ⊥
IsThere j m n (Some e) = (e.request ≡ j) × (e.message ≡ m) × (e.moment ≡ n)

-- each such reply is kept
abbrev pub EachIsThere : Conf → Settings → History → Table → Type 0
EachIsThere c s h t =
    (q : Request) (j u moment n but : ℕ) (m : Octets)
    → asking j h ≡ Some (record { request = q; moment = u })
    → Ever (IsFreshReply c s j m moment) h
    → validity_of_message s m ≡ Some n
    → 0 < n
    → is_cacheable q ≡ true
    → replied but h ≡ false
    → AllAreViews q m j moment but h
    → IsThere j m moment (kept_of (key_of q) t)

-- What is kept is what the definitions say.
pub record Known (c : Conf) (s : Settings) (h : History) (t : Course) : Type 0 where
  pub point : point.Known h t.point
  pub so : (k : Key) (e : Kept) → kept_of k t.replies ≡ Some e → IsKept c s k e h
  pub back : EachIsThere c s h t.replies
