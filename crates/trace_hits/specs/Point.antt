-- What is known at a point of a trace, but for the replies that must be given again.
use Rattle.std.specs.Prelude.{◌≡◌, ℕ, ◌+◌, ◌==◌, ◌&&◌, Bool, false, is_some, [], ◌∷◌, Option, Some, None}
use Rattle.client_request.specs.declared.event.{Event.Event, What.What, What.TheVariants.Ask, Out.Out, Out.TheVariants.Reply}
use Rattle.right_trace.specs.Trace.{History, Came, Put}
use Rattle.right_trace.specs.Time.{newest, one_if}
use Rattle.right_trace.specs.Requests.{Asking, is_ask, is_asked_here}
use Rattle.right_trace.specs.Keys.{Key, key_of, is_cacheable}
use Rattle.right_trace.specs.Hit.{is_some_reply}
use Rattle.cache_rules.specs.Key.{same_key}
use Rattle.trace_tables.specs.Requests as requests
use Rattle.trace_hits.specs.declared.point.Point.{Point}
use Rattle.trace_hits.specs.declared.question.Question.{Question}
use Rattle.trace_hits.specs.Question.{IsTold}

abbrev pub nothing : Point
nothing = record { requests = requests.nothing; here = None; replied = 0 }

abbrev pub is_number : (k : ℕ) → Option ℕ → Bool
is_number k None = false
is_number k (Some j) = j == k

-- the request that an event asks, where so many were asked before
abbrev pub asked_by : What → (asked : ℕ) → Option ℕ
asked_by (Ask r) n = Some n
asked_by _ n = None

-- what an event makes of it, and what an out makes of it
abbrev pub met : Event → Point → Point
met e p = record { requests = requests.met e p.requests; here = asked_by e.what p.requests.asked; replied = p.replied }

abbrev pub replied_then : Out → ℕ → ℕ
replied_then (Reply k x) n = n + 1
replied_then _ n = n

abbrev pub counted : Out → Point → Point
counted o p = record p { replied = replied_then o p.replied }

abbrev pub has_put : Out → Point → Point
has_put o p = record { requests = requests.has_put o p.requests; here = p.here; replied = replied_then o p.replied }

-- how many replies were put
abbrev pub replies_in : History → ℕ
replies_in [] = 0
replies_in (Came e ∷ h) = replies_in h
replies_in (Put o ∷ h) = one_if (is_some_reply o) + replies_in h

-- what is kept is what the definitions say
pub record Known (h : History) (p : Point) : Type 0 where
  pub requests : requests.Known h p.requests
  pub here : (k : ℕ) → is_number k p.here ≡ is_asked_here k h
  pub own : is_some p.here ≡ is_ask (newest h)
  pub replied : p.replied ≡ replies_in h

-- what a request that was asked asks, or that it was not, or its results are not kept
abbrev pub IsToldAt : Option Asking → Option Question → Type 0
IsToldAt None q = q ≡ None
IsToldAt (Some a) q = IsTold a.request q

-- a request that was asked has this key
abbrev pub has_key : Key → Option Asking → Bool
has_key k None = false
has_key k (Some a) = is_cacheable a.request && same_key (key_of a.request) k
