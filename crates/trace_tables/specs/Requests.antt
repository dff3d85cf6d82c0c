-- What a forward pass keeps of requests, and what it says of them.
use Rattle.std.specs.Prelude.{◌≡◌, ℕ, ◌+◌, ◌==◌, ◌&&◌, nat_le, max, Bool, true, false, if◌then◌else◌, is_some, List, [], ◌∷◌, Option, Some, None, option_and_then}
use Rattle.number_table.specs.Entries.{puts, entry_at}
use Rattle.client_request.specs.Request.{Request}
use Rattle.client_request.specs.declared.event.{Event.Event, What.What, What.TheVariants.Ask, Out.Out, Via.Via}
use Rattle.client_request.specs.declared.event.Out.TheVariants.{Start, Stale, Reply}
use Rattle.right_trace.specs.Trace.{History, Conf}
use Rattle.right_trace.specs.Time as time
use Rattle.right_trace.specs.Requests.{Asking, asking, asks, same_via, start, replied, is_marked}
use Rattle.right_trace.specs.Causes.{DeadlineHasPassed}
use Rattle.trace_tables.specs.declared.requests.{Requests.Requests, Started.Started}
use Rattle.trace_tables.specs.Lists.{adds, listed}

abbrev pub nothing : Requests
nothing = record { askings = []; starts = []; replies = []; marked = None; asked = 0; clock = 0 }

-- when a start at a server so was
abbrev pub start_of : (s : ℕ) → Via → List Started → Option ℕ
start_of s v [] = None
start_of s v (x ∷ xs) = if same_via x.via v && (x.server == s) then Some x.moment else start_of s v xs

-- a request is asked at the moment that it is now
abbrev pub is_asked : Request → Requests → Requests
is_asked q r = record r { askings = puts r.asked (record { request = q; moment = r.clock }) r.askings; asked = r.asked + 1 }

abbrev pub told : What → Requests → Requests
told (Ask q) r = is_asked q r
told _ r = r

-- what an event makes of the requests, and what an out makes of them
abbrev pub met : Event → Requests → Requests
met e r = told e.what (record r { clock = max e.moment.0 r.clock; marked = None })

abbrev pub has_put : Out → Requests → Requests
has_put (Start k s v) r = record r { starts = adds k (record { server = s; via = v; moment = r.clock }) r.starts; marked = None }
has_put (Stale k) r = record r { marked = Some k }
has_put (Reply k x) r = record r { replies = puts k tt r.replies; marked = None }
has_put _ r = record r { marked = None }

abbrev pub start_seen : (k s : ℕ) → Via → Requests → Option ℕ
start_seen k s v r = start_of s v (listed k r.starts)

abbrev pub started_seen : (k s : ℕ) → Via → Requests → Bool
started_seen k s v r = is_some (start_seen k s v r)

abbrev pub replied_seen : (k : ℕ) → Requests → Bool
replied_seen k r = is_some (entry_at k r.replies)

abbrev pub is_number : (k : ℕ) → Option ℕ → Bool
is_number k None = false
is_number k (Some j) = j == k

abbrev pub marked_seen : (k : ℕ) → Requests → Bool
marked_seen k r = is_number k r.marked

abbrev pub past_at : (timeout now : ℕ) → Option Asking → Bool
past_at timeout now None = false
past_at timeout now (Some a) = nat_le (a.moment + timeout) now

abbrev pub deadline_seen : (timeout k : ℕ) → Requests → Bool
deadline_seen timeout k r = past_at timeout r.clock (entry_at k r.askings)

-- what is kept is what the definitions say
pub record Known (h : History) (r : Requests) : Type 0 where
  pub time : r.clock ≡ time.now h
  pub count : r.asked ≡ asks h
  pub askings : (k : ℕ) → entry_at k r.askings ≡ asking k h
  pub starts : (k s : ℕ) (v : Via) → start_seen k s v r ≡ start k s v h
  pub replies : (k : ℕ) → replied_seen k r ≡ replied k h
  pub marks : (k : ℕ) → marked_seen k r ≡ is_marked k h

abbrev pub DeadlineDecides : Type 0
DeadlineDecides = (c : Conf) (h : History) (r : Requests) (k : ℕ) → Known h r → (deadline_seen c.timeout k r ≡ true → DeadlineHasPassed c k h) × (DeadlineHasPassed c k h → deadline_seen c.timeout k r ≡ true)
