-- The client above its servers, as small moves on functions: who is handed on, which result is taken, what is stored. It goes any way where nothing that is promised depends on it: which server is next and when, in which order results are taken, what the cache lets go.
use Rattle.std.specs.Prelude.{◌≡◌, ℕ, suc, ◌+◌, ◌<◌, ◌≤◌, max, ◌==◌, ◌||◌, nat_lt, Bool, true, false, if◌then◌else◌, is_some, Option, Some, None, List, [], ◌∷◌, ◌++◌, length, map, Result, Ok, Err}
use Rattle.dns_base.specs.Data.{Data}
use Rattle.client_request.specs.Request.{Request}
use Rattle.client_request.specs.declared.error.Error.{Error}
use Rattle.client_request.specs.declared.event.Event.{Event}
use Rattle.client_request.specs.declared.event.What.{What}
use Rattle.client_request.specs.declared.event.What.TheVariants.{Ask, Tick}
use Rattle.client_request.specs.declared.event.Out.{Out}
use Rattle.client_request.specs.declared.event.Out.TheVariants.{Stale, Reply}
use Rattle.client_request.specs.declared.event.Row.{Row}
use Rattle.right_trace.specs.Trace.{Conf}
use Rattle.right_trace.specs.Messages.{Octets}
use Rattle.right_trace.specs.Requests.{is_ask}
use Rattle.right_trace.specs.Settings.{Settings}
use Rattle.right_trace.specs.Keys.{Key, KeysCover, KeyCovers, key_of, is_cacheable}
use Rattle.right_trace.specs.Parts.{IsIn, Parts, known_parts, Says}
use Rattle.right_trace.specs.Validity.{validity_of_message, waits_for_others}
use Rattle.right_trace.specs.Views.{tells_of_name, view_of, stale_of, view_validity, IsValidView}
use Rattle.right_trace.specs.Errors.{is_failure, is_failing}
use Rattle.proof_right.specs.machine.Part.{Post, Act, ServerPart}
use Rattle.client_request.specs.declared.error.Error.TheVariants as errors

-- a result that a server gave and that is not taken yet
pub record Posted : Type 0 where
  pub server : ℕ
  pub request : ℕ
  pub result : Result Octets Error

-- a result that was kept back
pub record Given : Type 0 where
  pub server : ℕ
  pub result : Result Octets Error

-- a request that is tried: what was asked, and when, the servers that it was handed to, and what was kept back, the first first
pub record Waiting : Type 0 where
  pub request : Request
  pub moment : ℕ
  pub tried : ℕ → Bool
  pub kept_back : List Given

-- a result that is to be put out as a reply, what was given before its validity was read, and whether it is then stored; or what is put in its place, marked as stale
pub record Leaving : Type 0 where
  pub request : ℕ
  pub asked : Request
  pub result : Result Octets Error
  pub given : Result Octets Error
  pub is_stored : Bool
  pub stale : Option Octets

-- What is stored under a key: the first reply, whose it was, and when.
pub record Entry : Type 0 where
  pub under : Key
  pub first : Request
  pub number : ℕ
  pub result : Result Octets Error
  pub moment : ℕ

-- `expired` is what was stored for a request when it was asked, and had expired.
pub record Upper (U : Type 0) : Type 0 where
  pub now : ℕ
  pub asked : ℕ
  pub place : ℕ
  pub pending : What
  pub held : ℕ → Option Waiting
  pub ups : ℕ → U
  pub board : List Posted
  pub leaving : List Leaving
  pub stored : List Entry
  pub expired : ℕ → Option Entry

pub record Made (U : Type 0) : Type 0 where
  pub state : Upper U
  pub outs : List Out

abbrev pub with_up : {U : Type 0} → ℕ → U → (ℕ → U) → ℕ → U
with_up s u f t = if s == t then u else f t

abbrev pub with_held : ℕ → Option Waiting → (ℕ → Option Waiting) → ℕ → Option Waiting
with_held k a f j = if k == j then a else f j

abbrev pub with_expired : ℕ → Option Entry → (ℕ → Option Entry) → ℕ → Option Entry
with_expired k a f j = if k == j then a else f j

abbrev pub tag : ℕ → Post → Posted
tag s x = record { server = s; request = x.request; result = x.result }

-- a server has moved: its results are on the board
abbrev pub moved : {U : Type 0} → (s : ℕ) → Act U → Upper U → Upper U
moved s d x = record x { ups = with_up s d.state x.ups; place = d.place; board = x.board ++ map (tag s) d.posts }

-- a request is handed to one more server
abbrev pub handing : (s : ℕ) → Waiting → Waiting
handing s a = record a { tried = λ t. (s == t) || a.tried t }

abbrev pub hand : {U : Type 0} → (k s : ℕ) → Waiting → Upper U → Upper U
hand k s a x = record x { held = with_held k (Some (handing s a)) x.held }

abbrev pub keeping : Given → Waiting → Waiting
keeping g a = record a { kept_back = a.kept_back ++ g ∷ [] }

-- the first message that was kept back, else the first error
abbrev pub first_message : List Given → Option (Result Octets Error)
first_message [] = None
first_message (g ∷ gs) = elim g.result [ Ok m ↦ Some (Ok m) | Err e ↦ first_message gs ]

abbrev pub first_result : List Given → Option (Result Octets Error)
first_result [] = None
first_result (g ∷ gs) = Some g.result

abbrev pub or_else : {A : Type 0} → Option A → Option A → Option A
or_else (Some x) y = Some x
or_else None y = y

abbrev pub best : List Given → Option (Result Octets Error)
best gs = or_else (first_message gs) (first_result gs)

-- how long a result may be kept
abbrev pub validity_of : Settings → Result Octets Error → Option ℕ
validity_of s (Ok m) = validity_of_message s m
validity_of s (Err e) = Some s.transport_failure_duration

-- what the cache makes of a result: a message without a validity is no result for a request that it keeps
abbrev pub outcome_of : (cacheable : Bool) → Option ℕ → (k : ℕ) → Request → Result Octets Error → Leaving
outcome_of false v k r x = record { request = k; asked = r; result = x; given = x; is_stored = false; stale = None }
outcome_of true (Some n) k r x = record { request = k; asked = r; result = x; given = x; is_stored = nat_lt 0 n; stale = None }
outcome_of true None k r x = record { request = k; asked = r; result = Err errors.MessageParseError; given = x; is_stored = false; stale = None }

abbrev pub outcome : Settings → (k : ℕ) → Request → Result Octets Error → Leaving
outcome s k r x = outcome_of (is_cacheable r) (validity_of s x) k r x

-- What a result becomes: what the cache makes of it; or, where a message has no validity, itself: no cache looks at it, or it fails, which is asked before its validity is.
pub data IsOutcome (s : Settings) (k : ℕ) (r : Request) (x : Result Octets Error) : Leaving → Type 0 where
  Caches : IsOutcome s k r x (outcome s k r x)
  Passes : (m : Octets) → x ≡ Ok m → validity_of_message s m ≡ None → IsOutcome s k r x (record { request = k; asked = r; result = x; given = x; is_stored = false; stale = None })

-- a request leaves with this result
abbrev pub leave : {U : Type 0} → Leaving → Upper U → Upper U
leave x u = record u { held = with_held x.request None u.held; leaving = u.leaving ++ x ∷ [] }

abbrev pub entry_of : (now : ℕ) → Leaving → Entry
entry_of n x = record { under = key_of x.asked; first = x.asked; number = x.request; result = x.result; moment = n }

abbrev pub store : (now : ℕ) → Leaving → List Entry → List Entry
store n x es = if x.is_stored then entry_of n x ∷ es else es

-- the request is answered in its asking's own row
abbrev pub answer : {U : Type 0} → Leaving → Upper U → Upper U
answer x u = record u { asked = suc u.asked; pending = Tick; leaving = u.leaving ++ x ∷ [] }

-- an error of a server or of the deadline
abbrev pub is_failure_of : Result Octets Error → Bool
is_failure_of (Ok m) = false
is_failure_of (Err e) = is_failure e

-- Octets are what an expired entry says for request r at this moment.
pub record Revived (s : Settings) (now : ℕ) (e : Entry) (r : Request) (y : Octets) : Type 0 where
  pub message : Octets
  pub is : e.result ≡ Ok message
  pub parts : Parts Data
  pub known : known_parts message ≡ Some parts
  pub tells : tells_of_name parts.code ≡ true
  pub age : ℕ
  pub is_age : e.moment + age ≡ now
  pub allowed : 0 < s.stale_for
  pub in_time : age ≤ view_validity s e.first r parts + s.stale_for
  pub says : Says y (stale_of e.first r parts)

-- it is put in the place of the result, and nothing is stored
abbrev pub revive : Octets → Leaving → Leaving
revive m y = record { request = y.request; asked = y.asked; result = y.result; given = y.given; is_stored = false; stale = Some m }

-- what is put of a result that leaves
abbrev pub told_of : (k : ℕ) → Result Octets Error → Option Octets → List Out
told_of k x None = Reply k x ∷ []
told_of k x (Some m) = Stale k ∷ Reply k (Ok m) ∷ []

-- the request is tried
abbrev pub newcomer : Request → (now : ℕ) → Waiting
newcomer r n = record { request = r; moment = n; tried = λ s. false; kept_back = [] }

abbrev pub take_on : {U : Type 0} → Request → Option Entry → Upper U → Upper U
take_on r old u = record u { asked = suc u.asked; pending = Tick; held = with_held u.asked (Some (newcomer r u.now)) u.held; expired = with_expired u.asked old u.expired }

abbrev pub unmade : {U : Type 0} → Upper U → Made U
unmade x = record { state = x; outs = [] }

module _ (c : Conf) (s : Settings) (compose : Request → Result Octets Error) where
  -- How a request may be answered at once: it can't be composed; what is stored serves it; or there is no server.
  pub data AtOnce (now k : ℕ) (stored : List Entry) (r : Request) : Leaving → Type 0 where
    Refused : (e : Error) → compose r ≡ Err e → AtOnce now k stored r (record { request = k; asked = r; result = Err e; given = Err e; is_stored = false; stale = None })
    Viewed : (e : Entry) (m y : Octets) (x : Parts Data) (age : ℕ) → (o : Octets) × (compose r ≡ Ok o) → IsIn e stored → e.result ≡ Ok m → KeyCovers e.under r → e.moment + age ≡ now → IsValidView s e.first r m x age → Says y (view_of e.first r age x)
        → AtOnce now k stored r (record { request = k; asked = r; result = Ok y; given = Ok y; is_stored = false; stale = None })
    Repeated : (e : Entry) (x : Error) → (o : Octets) × (compose r ≡ Ok o) → IsIn e stored → e.result ≡ Err x → KeyCovers e.under r → now ≤ e.moment + s.transport_failure_duration → AtOnce now k stored r (record { request = k; asked = r; result = Err x; given = Err x; is_stored = false; stale = None })
    Nowhere : (o : Octets) × (compose r ≡ Ok o) → length c.servers ≡ 0 → AtOnce now k stored r (outcome s k r (Err errors.NoTransportAvailable))

  module _ (P : ServerPart c) where
    -- no result of request k is on the board
    abbrev pub NoneOf : (k : ℕ) → List Posted → Type 0
    NoneOf k xs = (x : Posted) → IsIn x xs → x.request ≡ k → ⊥

    pub data Move (x : Upper P.State) : Made P.State → Type 0 where
      Server_moves : (i : ℕ) (d : Act P.State) → i < length c.servers → P.Acts i x.place (x.ups i) d → Move x (record { state = moved i d x; outs = d.outs })
      Hands_on : (i k : ℕ) (a : Waiting) (d : Act P.State) → i < length c.servers → x.held k ≡ Some a → a.tried i ≡ false → P.Starts i x.place k a.request (x.ups i) d → Move x (record { state = moved i d (hand k i a x); outs = d.outs })
      Gives_up : (i k : ℕ) (d : Act P.State) → i < length c.servers → x.held k ≡ None → P.holds (x.ups i) k ≡ true → P.Cancels i x.place k (x.ups i) d → Move x (record { state = moved i d x; outs = d.outs })
      Drops : (before after : List Posted) (y : Posted) → x.board ≡ before ++ y ∷ after → x.held y.request ≡ None → Move x (unmade (record x { board = before ++ after }))
      Keeps_back : (before after : List Posted) (y : Posted) (a : Waiting) → x.board ≡ before ++ y ∷ after → x.held y.request ≡ Some a → waits_for_others s y.result ≡ true
          → Move x (unmade (record x { board = before ++ after; held = with_held y.request (Some (keeping (record { server = y.server; result = y.result }) a)) x.held }))
      Delivers : (before after : List Posted) (y : Posted) (a : Waiting) (z : Leaving) → x.board ≡ before ++ y ∷ after → x.held y.request ≡ Some a → waits_for_others s y.result ≡ false → IsOutcome s y.request a.request y.result z
          → Move x (unmade (leave z (record x { board = before ++ after })))
      Concludes : (k : ℕ) (a : Waiting) (y : Result Octets Error) (z : Leaving) → x.held k ≡ Some a → ((i : ℕ) → i < length c.servers → a.tried i ≡ true) → ((i : ℕ) → i < length c.servers → P.holds (x.ups i) k ≡ false) → NoneOf k x.board → best a.kept_back ≡ Some y → IsOutcome s k a.request y z
          → Move x (unmade (leave z x))
      Times_out : (k : ℕ) (a : Waiting) → x.held k ≡ Some a → a.moment + c.timeout ≤ x.now → Move x (unmade (leave (record { request = k; asked = a.request; result = Err errors.TimedOut; given = Err errors.TimedOut; is_stored = false; stale = None }) x))
      Revives : (before after : List Leaving) (y : Leaving) (e : Entry) (m : Octets) → x.leaving ≡ before ++ y ∷ after → is_failing y.given ≡ true → x.expired y.request ≡ Some e → Revived s x.now e y.asked m → Move x (unmade (record x { leaving = before ++ revive m y ∷ after }))
      Replies : (before after : List Leaving) (y : Leaving) → x.leaving ≡ before ++ y ∷ after → Move x (record { state = record x { leaving = before ++ after; stored = store x.now y x.stored }; outs = told_of y.request y.result y.stale })
      Forgets : (before after : List Entry) (e : Entry) → x.stored ≡ before ++ e ∷ after → Move x (unmade (record x { stored = before ++ after }))
      Derives : (e : Entry) (k : Key) → IsIn e x.stored → KeysCover e.under k → Move x (unmade (record x { stored = record e { under = k } ∷ x.stored }))
      Answers : (r : Request) (y : Leaving) → x.pending ≡ Ask r → AtOnce x.now x.asked x.stored r y → Move x (unmade (answer y x))
      Takes_on : (r : Request) (o : Octets) (old : Option Entry) → x.pending ≡ Ask r → compose r ≡ Ok o → 0 < length c.servers → ((e : Entry) → old ≡ Some e → IsIn e x.stored × KeyCovers e.under r) → Move x (unmade (take_on r old x))

    -- A row is done when nothing is due: the asking is answered or taken on, each result is taken, each reply is put, each server rests and holds no request but those that are tried, each of these is held by a server, and none is at its timeout.
    pub record IsDone (x : Upper P.State) : Type 0 where
      pub taken : is_ask x.pending ≡ false
      pub board : x.board ≡ []
      pub leaving : x.leaving ≡ []
      pub rests : (i : ℕ) → i < length c.servers → P.Rests (x.ups i)
      pub tried_alone : (i k : ℕ) → i < length c.servers → P.holds (x.ups i) k ≡ true → is_some (x.held k) ≡ true
      pub goes_on : (k : ℕ) (a : Waiting) → x.held k ≡ Some a → (i : ℕ) × (i < length c.servers) × (P.holds (x.ups i) k ≡ true)
      pub early : (k : ℕ) (a : Waiting) → x.held k ≡ Some a → x.now < a.moment + c.timeout

    pub data Moves : Upper P.State → Made P.State → Type 0 where
      Rests : (x : Upper P.State) → IsDone x → Moves x (unmade x)
      Goes : (x : Upper P.State) (d e : Made P.State) → Move x d → Moves d.state e → Moves x (record { state = e.state; outs = d.outs ++ e.outs })

    abbrev pub row_begins : Event → Upper P.State → Upper P.State
    row_begins e x = record x { now = max e.moment.0 x.now; pending = e.what; ups = λ i. P.begin e (x.ups i) }

    pub record IsStep (x : Upper P.State) (row : Row) (x' : Upper P.State) : Type 0 where
      pub made : Made P.State
      pub moves : Moves (row_begins row.event x) made
      pub outs : row.outs ≡ made.outs
      pub leaves : x' ≡ made.state

    pub data IsRun : Upper P.State → List Row → Type 0 where
      Ends : (x : Upper P.State) → IsRun x []
      Goes_on : (x : Upper P.State) (row : Row) (x' : Upper P.State) (rows : List Row) → IsStep x row x' → IsRun x' rows → IsRun x (row ∷ rows)

    abbrev pub begun : Upper P.State
    begun = record { now = 0; asked = 0; place = 0; pending = Tick; held = λ k. None; ups = λ i. P.fresh; board = []; leaving = []; stored = []; expired = λ k. None }
