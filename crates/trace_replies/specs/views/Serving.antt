-- Whether a message is the view of an earlier reply's, or what such a one says when it has expired.
use Rattle.std.specs.Prelude.{◌≡◌, ◌<◌, ◌+◌, ◌-◌, ℕ, ◌==◌, ◌&&◌, nat_lt, Bool, Ok}
use Rattle.dns_base.specs.Data.{Data}
use Rattle.client_request.specs.Request.{Request}
use Rattle.client_request.specs.declared.event.What.{What}
use Rattle.right_trace.specs.Trace.{History, Conf}
use Rattle.right_trace.specs.{Time.newest, Messages.Octets, Settings.Settings, Requests.is_ask}
use Rattle.right_trace.specs.Parts.{Parts, Says}
use Rattle.right_trace.specs.Keys.{KeysCover, key_of}
use Rattle.right_trace.specs.Views.{stale_of, IsValidStale}
use Rattle.right_trace.specs.Replies.{Supplies, IsView}
use Rattle.message_judging.specs.declared.views.serving.Flags.{Flags}
use Rattle.message_judging.specs.views.Serving.{HasFlags, IsViewOf, IsStaleOf}
use Rattle.trace_tables.specs.declared.requests.Requests.{Requests}
use Rattle.trace_tables.specs.Requests as requests
use Rattle.trace_points.specs.questions.Outs.{Tells}
use Rattle.trace_replies.specs.declared.given.asks.Asks.{Asks}
use Rattle.trace_replies.specs.declared.given.earlier.Earlier.{Earlier}
use Rattle.trace_replies.specs.given.{Asks.IsAsked, Earlier.Table}
use Rattle.trace_replies.specs.given.Earlier as earlier
use Rattle.trace_replies.specs.declared.views.serving.Manner.{Manner}
use Rattle.trace_replies.specs.declared.views.serving.Manner.TheVariants.{Valid, Expired}

-- a message is given of a kept one so
abbrev pub IsGivenOf : Manner → Settings → (q r : Request) → (kept : Octets) → (age : ℕ) → Octets → Type 0
IsGivenOf Valid s q r kept age m = IsViewOf s q r kept age m
IsGivenOf Expired s q r kept age m = IsStaleOf s q r kept age m

-- for how long a reply may be given so at most
abbrev pub longest : Manner → Settings → ℕ
longest Valid s = s.max_validity
longest Expired s = s.max_validity + s.stale_for

-- At moment n an earlier reply, to q, gives request k, which is r, this message.
pub record Gives (u : Manner) (s : Settings) (k n : ℕ) (m : Octets) (q r : Request) (e : Earlier) : Type 0 where
  pub below : e.request < k
  pub covers : KeysCover (key_of q) (key_of r)
  pub kept : Octets
  pub is : e.outcome ≡ Ok kept
  pub given : IsGivenOf u s q r kept (n - e.moment) m

-- the answer whether a kept message that was asked for with these flags gives another at an age
abbrev pub TellsKept : Manner → Settings → Asks → Octets → (kept : Octets) → Flags → (age : ℕ) → Bool → Type 0
TellsKept u s a m kept f age b = (q r : Request) → IsAsked r a → KeysCover (key_of q) (key_of r) → HasFlags q f → Tells (IsGivenOf u s q r kept age m) b

-- its moment is too long ago
abbrev pub is_past : Manner → Settings → (now moment : ℕ) → Bool
is_past u s n t = nat_lt (longest u s) (n - t)

-- an earlier reply gives a message to request k
pub record IsFound (u : Manner) (c : Conf) (s : Settings) (k : ℕ) (m : Octets) (h : History) : Type 0 where
  pub first : Request
  pub request : Request
  pub message : Octets
  pub age : ℕ
  pub supplied : Supplies c s k first request message age h
  pub given : IsGivenOf u s first request message age m

abbrev pub TellsFound : Manner → Settings → (k : ℕ) → Octets → Requests → Table → Bool → Type 0
TellsFound u s k m r t b = (c : Conf) (h : History) → requests.Known h r → earlier.Known c s h t → Tells (IsFound u c s k m h) b

-- the newest row is the asking of request k
abbrev pub asked_here_seen : (k : ℕ) → What → Requests → Bool
asked_here_seen k w r = is_ask w && (r.asked == k + 1)

-- an earlier reply supplies what a message says that has expired
pub record IsSupplied (c : Conf) (s : Settings) (k : ℕ) (m : Octets) (h : History) : Type 0 where
  pub first : Request
  pub request : Request
  pub message : Octets
  pub age : ℕ
  pub supplied : Supplies c s k first request message age h
  pub parts : Parts Data
  pub valid : IsValidStale s first request message parts age
  pub says : Says m (stale_of first request parts)

-- the answers, of every history that the tables know
abbrev pub TellsView : Settings → (k : ℕ) → Octets → What → Requests → Table → Bool → Type 0
TellsView s k m w r t b = (c : Conf) (h : History) → newest h ≡ w → requests.Known h r → earlier.Known c s h t → Tells (IsView c s k m h) b

abbrev pub TellsSupplied : Settings → (k : ℕ) → Octets → Requests → Table → Bool → Type 0
TellsSupplied s k m r t b = (c : Conf) (h : History) → requests.Known h r → earlier.Known c s h t → Tells (IsSupplied c s k m h) b
