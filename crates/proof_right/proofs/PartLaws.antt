-- The laws that one server's part owes, whatever transport it is: what the client knows of it.
use Rattle.right_trace.specs.Time.{max_places}
use Rattle.std.specs.Prelude.{◌≡◌, ℕ, ◌+◌, ◌≤◌, ◌<◌, ◌≢◌, min, Bool, true, false, ◌&&◌, ◌||◌, ◌==◌, ◌⊎◌, if◌then◌else◌, Some, List, [], ◌∷◌, length, Result, Ok, Err}
use Rattle.client_request.specs.Request.{Request}
use Rattle.client_request.specs.Carries.{IsOfOctets}
use Rattle.client_request.specs.declared.error.Error.{Error}
use Rattle.client_request.specs.declared.event.Event.{Event}
use Rattle.client_request.specs.declared.event.What.{What}
use Rattle.client_request.specs.declared.event.What.TheVariants.{Tick, Opened}
use Rattle.client_request.specs.declared.event.Via.{Via}
use Rattle.client_request.specs.declared.event.Via.TheVariants.{Stream}
use Rattle.client_request.specs.declared.event.Out.TheVariants.{Stale, Reply}
use Rattle.right_trace.specs.Trace.{History, Conf, Came, Put, put_all}
use Rattle.right_trace.specs.Messages.{Octets, is_valid}
use Rattle.right_trace.specs.Requests.{Asking, asking, replied, waits, handed}
use Rattle.right_trace.specs.Places.{site, reach, live, demand, place_of}
use Rattle.right_trace.specs.Exchanges.{Comes, Matches}
use Rattle.right_trace.specs.Busy.{IsBusy}
use Rattle.right_trace.specs.Owed.{IsOwed}
use Rattle.right_trace.specs.Coming.{CameFor, IsExcused}
use Rattle.right_trace.specs.Causes.{ServerCause}
use Rattle.right_trace.specs.Right.{ServerOutsRight}
use Rattle.proof_right.specs.machine.Part.{Post, Act, IsPosted, ServerPart}
use Rattle.client_request.specs.declared.error.Error.TheVariants as errors
use Rattle.client_request.specs.declared.error.QueryError.TheVariants as query

-- an error of composing
abbrev pub is_composing : Error → Bool
is_composing errors.MessageParseError = true
is_composing errors.MessageBuilderPushError = true
is_composing _ = false

-- a server composes, and may fail at that, only when a place opens
abbrev pub IsByOpening : Error → What → Type 0
IsByOpening e w = is_composing e ≡ true → (p : ℕ) × (w ≡ Opened p)

-- a result is right in the row in which a server gives it: a message came for the request and matches it, an error has its cause
abbrev pub PostRight : (c : Conf) (k : ℕ) → Result Octets Error → (past : History) → What → History → Type 0
PostRight c k (Ok m) past w h = CameFor c k m past w h
PostRight c k (Err e) past w h = ServerCause c k past w h e × IsByOpening e w

-- what has a reply has one later
abbrev pub Later : History → History → Type 0
Later h end = (k : ℕ) → replied k h ≡ true → replied k end ≡ true

-- What a move of server s's part owes beside its own facts: those of every other server stand, it says nothing of replies, and hands requests on as said.
pub record Keeps (U : Type 0) (Fits : (s : ℕ) (past : History) (w : What) → U → History → Type 0) (hands : (j t : ℕ) → Bool) (s : ℕ) (past : History) (w : What) (h : History) (d : Act U) : Type 0 where
  pub fits : Fits s past w d.state (put_all d.outs h)
  pub others : (t : ℕ) (v : U) → t ≢ s → Fits t past w v h → Fits t past w v (put_all d.outs h)
  pub silent : (j : ℕ) → replied j (put_all d.outs h) ≡ replied j h
  pub handed_on : (j t : ℕ) → handed j t (put_all d.outs h) ≡ (hands j t || handed j t h)
  pub reaches : d.place ≡ reach (put_all d.outs h)

-- What a move may do with what is held, `held` being what is when it begins: a request that is held no longer has its result given, once; a result is right, and the server owes the request nothing from then on.
pub record Gives (c : Conf) (U : Type 0) (holds : U → ℕ → Bool) (held : ℕ → Bool) (s : ℕ) (past : History) (w : What) (h : History) (d : Act U) : Type 0 where
  pub no_more : (k : ℕ) → holds d.state k ≡ true → held k ≡ true
  pub given : (k : ℕ) → held k ≡ true → holds d.state k ≡ false → (x : Result Octets Error) × IsPosted (record { request = k; result = x }) d.posts
  pub was_held : (x : Post) → IsPosted x d.posts → held x.request ≡ true
  pub let_go : (x : Post) → IsPosted x d.posts → holds d.state x.request ≡ false
  pub once : (k : ℕ) (x y : Result Octets Error) → IsPosted (record { request = k; result = x }) d.posts → IsPosted (record { request = k; result = y }) d.posts → x ≡ y
  pub right : (x : Post) → IsPosted x d.posts → replied x.request past ≡ false → PostRight c x.request x.result past w (put_all d.outs h)
  pub over : (x : Post) → IsPosted x d.posts → IsOwed c s x.request past w (put_all d.outs h) → ⊥
  pub stays_over : (k t : ℕ) → ((t ≡ s) → held k ≡ false) → (IsOwed c t k past w h → ⊥) → IsOwed c t k past w (put_all d.outs h) → ⊥

-- an error that a fault of a datagram place brings
abbrev pub fault_in : Result Octets Error → ℕ
fault_in (Err (errors.Dgram (query.Connect f))) = 1
fault_in (Err (errors.Dgram (query.Send f))) = 1
fault_in (Err (errors.Dgram (query.Receive f))) = 1
fault_in _ = 0

-- how many of these are such, each by its result
abbrev pub total : {A : Type 0} → (A → ℕ) → List A → ℕ
total f [] = 0
total f (x ∷ xs) = f x + total f xs

-- the event names a place of server s
pub record IsEventOf (s : ℕ) (w : What) (h : History) : Type 0 where
  pub place : ℕ
  pub names : place_of w ≡ Some place
  pub via : Via
  pub at : site place h ≡ Some (record { via = via; server = s })

-- A part takes an event once, and at most one fault comes of it, where it names a place of this server.
pub record Tells (U : Type 0) (has_taken : U → Bool) (s : ℕ) (w : What) (u : U) (h : History) (d : Act U) : Type 0 where
  pub stays : has_taken u ≡ true → has_taken d.state ≡ true
  pub few : total (λ (x : Post). fault_in x.result) d.posts ≤ 1
  pub by_event : 1 ≤ total (λ (x : Post). fault_in x.result) d.posts → (has_taken u ≡ false) × (has_taken d.state ≡ true) × IsEventOf s w (put_all d.outs h)

-- A message that comes for a request by what was put out came before, or it is expected of a request that is held: what was written in this row counts.
abbrev pub Late : (c : Conf) (U : Type 0) (holds : U → ℕ → Bool) (Expects : U → (p k : ℕ) → Octets → Type 0) (s : ℕ) (past : History) (w : What) (h : History) (d : Act U) → Type 0
Late c U holds Expects s past w h d = (t : ℕ) (r : Request) (v : Via) (p k id : ℕ) (m : Octets) → Matches c r v t p k id m past w (put_all d.outs h) → Matches c r v t p k id m past w h ⊎ ((t ≡ s) × (holds d.state k ≡ true) × Expects d.state p k m)

-- What the part expects of the event stays expected, or is given now, or its place was closed by a timer.
abbrev pub Goes : (c : Conf) → (U : Type 0) (Expects : U → (p k : ℕ) → Octets → Type 0) (past : History) (w : What) (h : History) (u : U) (d : Act U) (p k : ℕ) (m : Octets) → Type 0
Goes c U Expects past w h u d p k m = Expects u p k m → IsPosted (record { request = k; result = Ok m }) d.posts ⊎ (Expects d.state p k m ⊎ IsExcused c p past w (put_all d.outs h))

abbrev pub none_more : (j t : ℕ) → Bool
none_more j t = false

abbrev pub this_one : (k s j t : ℕ) → Bool
this_one k s j t = (k == j) && (s == t)

abbrev pub or_this : (k : ℕ) → (ℕ → Bool) → ℕ → Bool
or_this k held j = if k == j then true else held j

-- One server's part. `begin` hands it the event of a row; `Acts` is a move of its own (a timer, the event), `Starts` takes a request on, `Cancels` gives one up; each may go on in several ways. Each is told the next free number of a place.
pub record Part (c : Conf) : Type 1 where
  pub State : Type 0
  pub fresh : State
  pub holds : State → (k : ℕ) → Bool
  pub begin : Event → State → State
  pub Acts : (s place : ℕ) → State → Act State → Type 0
  pub Starts : (s place k : ℕ) → Request → State → Act State → Type 0
  pub Cancels : (s place k : ℕ) → State → Act State → Type 0
  -- nothing is left to do in this row: the event is taken, and no timer is due
  pub Rests : State → Type 0
  -- the event, not taken yet, brings this message for request k to place p
  pub Expects : State → (p k : ℕ) → Octets → Type 0
  -- the event is taken
  pub has_taken : State → Bool
  -- all that the part knows of the history
  pub Fits : (s : ℕ) (past : History) (w : What) → State → History → Type 0
  pub fresh_fits : (s : ℕ) → Fits s [] Tick fresh []
  pub fresh_holds : (k : ℕ) → holds fresh k ≡ false
  pub fresh_rests : Rests fresh
  -- a row begins
  pub begins : (s : ℕ) (old past : History) (w : What) (e : Event) (u : State) → Fits s old w u past → Rests u → Fits s past e.what (begin e u) (Came e ∷ past)
  pub begins_held : (e : Event) (u : State) (k : ℕ) → holds (begin e u) k ≡ holds u k
  pub begins_over : (s k : ℕ) (old past : History) (w : What) (e : Event) (u : State) → Fits s old w u past → Rests u → holds u k ≡ false → (IsOwed c s k old w past → ⊥) → IsOwed c s k past e.what (Came e ∷ past) → ⊥
  -- a message that matches is expected, if its request is held; else it was handed over, and is owed an answer by the rows before
  pub begins_expecting : (s p k id : ℕ) (r : Request) (v : Via) (m : Octets) (old past : History) (w : What) (e : Event) (u : State) → Fits s old w u past → Rests u → Matches c r v s p k id m past e.what (Came e ∷ past)
      → (holds u k ≡ true → Expects (begin e u) p k m) × (holds u k ≡ false → (handed k s past ≡ true) × IsOwed c s k old w past)
  -- one id of a request at a stream place has a frame
  pub one_id : (s p k i j : ℕ) (q r : Request) (m n : Octets) (past : History) (w : What) (u : State) (h : History) → Fits s past w u h → Comes c q Stream s p k i m past w h → Comes c r Stream s p k j n past w h → i ≡ j
  -- a reply is nothing to it
  pub replies : (s k : ℕ) (x : Result Octets Error) (past : History) (w : What) (u : State) (h : History) → Fits s past w u h → Fits s past w u (Put (Reply k x) ∷ h)
  -- nor is the mark of one
  pub marks : (s k : ℕ) (past : History) (w : What) (u : State) (h : History) → Fits s past w u h → Fits s past w u (Put (Stale k) ∷ h)
  -- a move of its own
  pub acts_keeps : (s place : ℕ) (past : History) (w : What) (u : State) (h : History) (d : Act State) → s < length c.servers → Fits s past w u h → place ≡ reach h → Acts s place u d → Keeps State Fits none_more s past w h d
  pub acts_right : (s place : ℕ) (past : History) (w : What) (u : State) (h : History) (d : Act State) → s < length c.servers → Fits s past w u h → place ≡ reach h → Acts s place u d → ((k : ℕ) → holds u k ≡ true → replied k past ≡ false)
      → (end : History) → Later (put_all d.outs h) end → ServerOutsRight c past w end h d.outs
  pub acts_gives : (s place : ℕ) (past : History) (w : What) (u : State) (h : History) (d : Act State) → s < length c.servers → Fits s past w u h → place ≡ reach h → Acts s place u d → Gives c State holds (holds u) s past w h d
  pub acts_late : (s place : ℕ) (past : History) (w : What) (u : State) (h : History) (d : Act State) → s < length c.servers → Fits s past w u h → place ≡ reach h → Acts s place u d → Late c State holds Expects s past w h d
  pub acts_tells : (s place : ℕ) (past : History) (w : What) (u : State) (h : History) (d : Act State) → s < length c.servers → Fits s past w u h → place ≡ reach h → Acts s place u d → Tells State has_taken s w u h d
  pub acts_goes : (s place : ℕ) (past : History) (w : What) (u : State) (h : History) (d : Act State) (p k : ℕ) (m : Octets) → s < length c.servers → Fits s past w u h → place ≡ reach h → Acts s place u d → Goes c State Expects past w h u d p k m
  -- a request is handed to it that it never had
  pub starts_keeps : (s place k t : ℕ) (r : Request) (past : History) (w : What) (u : State) (h : History) (d : Act State) → s < length c.servers → Fits s past w u h → place ≡ reach h → IsOfOctets r → asking k h ≡ Some (record { request = r; moment = t }) → handed k s h ≡ false
      → Starts s place k r u d → Keeps State Fits (this_one k s) s past w h d
  pub starts_right : (s place k t : ℕ) (r : Request) (past : History) (w : What) (u : State) (h : History) (d : Act State) → s < length c.servers → Fits s past w u h → place ≡ reach h → IsOfOctets r → asking k h ≡ Some (record { request = r; moment = t }) → handed k s h ≡ false
      → Starts s place k r u d → ((j : ℕ) → or_this k (holds u) j ≡ true → replied j past ≡ false) → (end : History) → Later (put_all d.outs h) end → ServerOutsRight c past w end h d.outs
  pub starts_gives : (s place k t : ℕ) (r : Request) (past : History) (w : What) (u : State) (h : History) (d : Act State) → s < length c.servers → Fits s past w u h → place ≡ reach h → IsOfOctets r → asking k h ≡ Some (record { request = r; moment = t }) → handed k s h ≡ false
      → Starts s place k r u d → Gives c State holds (or_this k (holds u)) s past w h d
  pub starts_late : (s place k t : ℕ) (r : Request) (past : History) (w : What) (u : State) (h : History) (d : Act State) → s < length c.servers → Fits s past w u h → place ≡ reach h → IsOfOctets r → asking k h ≡ Some (record { request = r; moment = t }) → handed k s h ≡ false
      → Starts s place k r u d → Late c State holds Expects s past w h d
  pub starts_tells : (s place k t : ℕ) (r : Request) (past : History) (w : What) (u : State) (h : History) (d : Act State) → s < length c.servers → Fits s past w u h → place ≡ reach h → IsOfOctets r → asking k h ≡ Some (record { request = r; moment = t }) → handed k s h ≡ false
      → Starts s place k r u d → Tells State has_taken s w u h d
  pub starts_goes : (s place k t : ℕ) (r : Request) (past : History) (w : What) (u : State) (h : History) (d : Act State) (p j : ℕ) (m : Octets) → s < length c.servers → Fits s past w u h → place ≡ reach h → IsOfOctets r → asking k h ≡ Some (record { request = r; moment = t }) → handed k s h ≡ false
      → Starts s place k r u d → Goes c State Expects past w h u d p j m
  -- a request is given up; its places may be closed since it has its reply when the row ends
  pub cancels_keeps : (s place k : ℕ) (past : History) (w : What) (u : State) (h : History) (d : Act State) → s < length c.servers → Fits s past w u h → place ≡ reach h → holds u k ≡ true → Cancels s place k u d → Keeps State Fits none_more s past w h d
  pub cancels_right : (s place k : ℕ) (past : History) (w : What) (u : State) (h : History) (d : Act State) → s < length c.servers → Fits s past w u h → place ≡ reach h → holds u k ≡ true → Cancels s place k u d → replied k past ≡ false
      → (end : History) → Later (put_all d.outs h) end → replied k end ≡ true → ServerOutsRight c past w end h d.outs
  pub cancels_held : (s place k : ℕ) (past : History) (w : What) (u : State) (h : History) (d : Act State) → s < length c.servers → Fits s past w u h → place ≡ reach h → holds u k ≡ true → Cancels s place k u d → (j : ℕ) → holds d.state j ≡ (if k == j then false else holds u j)
  pub cancels_posts : (s place k : ℕ) (past : History) (w : What) (u : State) (h : History) (d : Act State) → s < length c.servers → Fits s past w u h → place ≡ reach h → holds u k ≡ true → Cancels s place k u d → d.posts ≡ []
  pub cancels_late : (s place k : ℕ) (past : History) (w : What) (u : State) (h : History) (d : Act State) → s < length c.servers → Fits s past w u h → place ≡ reach h → holds u k ≡ true → Cancels s place k u d → Late c State holds Expects s past w h d
  pub cancels_taken : (s place k : ℕ) (past : History) (w : What) (u : State) (h : History) (d : Act State) → s < length c.servers → Fits s past w u h → place ≡ reach h → holds u k ≡ true → Cancels s place k u d → has_taken u ≡ true → has_taken d.state ≡ true
  pub cancels_over : (s place k : ℕ) (past : History) (w : What) (u : State) (h : History) (d : Act State) → s < length c.servers → Fits s past w u h → place ≡ reach h → holds u k ≡ true → Cancels s place k u d
      → (j t : ℕ) → (t ≡ s → holds u j ≡ false) → (IsOwed c t j past w h → ⊥) → IsOwed c t j past w (put_all d.outs h) → ⊥
  pub cancels_goes : (s place k : ℕ) (past : History) (w : What) (u : State) (h : History) (d : Act State) (p j : ℕ) (m : Octets) → s < length c.servers → Fits s past w u h → place ≡ reach h → holds u k ≡ true → Cancels s place k u d → j ≢ k → Goes c State Expects past w h u d p j m
  -- when the row is done
  pub expects_held : (u : State) (p k : ℕ) (m : Octets) → Expects u p k m → holds u k ≡ true
  pub rested : (u : State) (p k : ℕ) (m : Octets) → Rests u → Expects u p k m → ⊥
  pub busy : (s k : ℕ) (a : Asking) (past : History) (w : What) (u : State) (h : History) → s < length c.servers → Fits s past w u h → Rests u → holds u k ≡ true → asking k h ≡ Some a → is_valid a.request ≡ true → waits k h ≡ true → IsBusy c k h
  pub few_places : (s : ℕ) (past : History) (w : What) (u : State) (h : History) → s < length c.servers → Fits s past w u h → Rests u → ((k : ℕ) → holds u k ≡ true → waits k h ≡ true) → live s h ≤ min (max_places c) (demand s h)
  pub just_so_many : (s : ℕ) (past : History) (w : What) (u : State) (h : History) → s < length c.servers → Fits s past w u h → Rests u → ((k : ℕ) → holds u k ≡ true → waits k h ≡ true) → ((k : ℕ) → waits k h ≡ true → handed k s h ≡ true → holds u k ≡ true)
      → live s h ≡ min (max_places c) (demand s h)

-- its machine
abbrev pub machine_of : {c : Conf} → Part c → ServerPart c
machine_of P = record { State = P.State; fresh = P.fresh; holds = P.holds; begin = P.begin; Acts = P.Acts; Starts = P.Starts; Cancels = P.Cancels; Rests = P.Rests }
