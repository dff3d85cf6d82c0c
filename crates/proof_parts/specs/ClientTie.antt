-- What a plain transport owes to be all that a client has below it, its cache too: it takes each asking as the client's machine does, and whatever a call leaves of it is reached by moves of that machine, which put out and give the same.
use Rattle.std.specs.Prelude.{◌≡◌, ℕ, suc, ◌<◌, ◌≤◌, ◌⊎◌, max, true, false, is_some, nat_lt, List, [], ◌∷◌, ◌++◌, length, map, Option, Some, None, Result, Ok}
use Rattle.client_request.specs.Carries.{IsOfOctets}
use Rattle.client_request.specs.Composed.{composed}
use Rattle.client_request.specs.Request.{Request}
use Rattle.client_request.specs.Timers.{cancelled}
use Rattle.client_request.specs.View.{View, Transport, told, more_at, due_timer}
use Rattle.client_request.specs.declared.board.Posted.{Posted}
use Rattle.client_request.specs.declared.error.Error.{Error}
use Rattle.client_request.specs.declared.event.Event.{Event}
use Rattle.client_request.specs.declared.event.Out.{Out}
use Rattle.client_request.specs.declared.event.Row.{Row}
use Rattle.client_request.specs.declared.event.What.{What}
use Rattle.client_request.specs.declared.event.What.TheVariants.{Ask}
use Rattle.right_trace.specs.Settings.{Settings}
use Rattle.right_trace.specs.Trace.{Conf}
use Rattle.proof_right.specs.machine.Part.{Post, ServerPart}
use Rattle.right_trace.specs.Keys.{Key, KeysCover}
use Rattle.right_trace.specs.Parts.{IsIn}
use Rattle.proof_right.specs.machine.Client.{Waiting, Leaving, Entry, Upper, Made, Revived, Move, Revives, Replies, Derives, Moves, Rests, Goes, IsRun, Ends, Goes_on, store, take_on, row_begins, begun}
use Rattle.right_trace.specs.Errors.{is_failing}
use Rattle.proof_right.specs.machine.Exact.{MayRevive}
use Rattle.right_trace.specs.Messages.{Octets}
use Rattle.right_trace.specs.Updates.{with_at}
use Rattle.proof_parts.specs.Chains.{Gives}
use Rattle.proof_parts.specs.Leading.{IsBelow}
use Rattle.proof_parts.specs.PartTie.{Phase, Untold, Told, MayEnd, MayLeave, Leads, place_in}
use Rattle.proof_parts.specs.Sights.{Sight, sight, due_of, IsFair, IsEarly}
use Rattle.proof_parts.specs.WholeTie.{Follows}
use Rattle.right_trace.specs.InOctets.{IsInOctets}

-- What stands in for a result of request r that fails: what had expired when it was asked, as it may be given now; or nothing, where nothing may.
abbrev pub StandsIn : Settings → (now : ℕ) → Request → (expired : Option Entry) → Option Octets → Type 0
StandsIn st now r expired (Some m) = (old : Entry) × (expired ≡ Some old) × Revived st now old r m
StandsIn st now r expired None = MayRevive st now r expired → ⊥

-- It is so of a result that leaves.
abbrev pub IsTold : {U : Type 0} → Settings → (x : Upper U) → Leaving → Type 0
IsTold st x z = z.stale ≡ None → is_failing z.given ≡ true → StandsIn st x.now z.asked (x.expired z.request) None

-- Something that is kept beside the machine, and what each move may make of it. Only askings and stored replies change it.
pub record Beside {c : Conf} (st : Settings) (P : ServerPart c) : Type 1 where
  pub Kept : Type 0
  pub first : Kept
  pub Does : (x : Upper P.State) (d : Made P.State) → Move c st composed P x d → (before after : Kept) → Type 0
  pub below : (x : Upper P.State) (d : Made P.State) (m : Move c st composed P x d) (e : Kept) → IsBelow st composed P x d m → Does x d m e e
  pub derives : (x : Upper P.State) (y : Entry) (k : Key) (is : IsIn y x.stored) (covers : KeysCover y.under k) (e : Kept) → Does x _ (Derives y k is covers) e e
  pub unstored : (x : Upper P.State) (before after : List Leaving) (y : Leaving) (is : x.leaving ≡ before ++ y ∷ after) (e : Kept) → y.is_stored ≡ false → IsTold st x y → Does x _ (Replies before after y is) e e
  pub revives : (x : Upper P.State) (before after : List Leaving) (y : Leaving) (old : Entry) (m : Octets) (is : x.leaving ≡ before ++ y ∷ after) (fails : is_failing y.given ≡ true) (there : x.expired y.request ≡ Some old) (may : Revived st x.now old y.asked m) (e : Kept) → Does x _ (Revives before after y old m is fails there may) e e

-- what a client gives with a request that leaves: its result, or what stands in for it
abbrev pub told_with : Result Octets Error → Option Octets → Result Octets Error
told_with x None = x
told_with x (Some m) = Ok m

abbrev pub reply_of : Leaving → Post
reply_of z = record { request = z.request; result = told_with z.result z.stale }

-- Each result on the board is stale exactly where something stands in for the one that leaves.
abbrev pub AreMarked : List Posted → List Leaving → Type 0
AreMarked (p ∷ ps) (z ∷ zs) = (p.is_stale ≡ is_some z.stale) × AreMarked ps zs
AreMarked _ _ = Unit {0}

-- who is tried was tried before, since the same moment
abbrev pub WereTried : (before after : ℕ → Option Waiting) → Type 0
WereTried before after = (k : ℕ) (b : Waiting) → after k ≡ Some b → (a : Waiting) × (before k ≡ Some a) × (b.moment ≡ a.moment)

-- Of x, y differs so: request k is tried no more.
pub record IsWithout {U : Type 0} (k : ℕ) (x y : Upper U) : Type 0 where
  pub held : y.held ≡ with_at k None x.held
  pub ups : y.ups ≡ x.ups
  pub place : y.place ≡ x.place
  pub board : y.board ≡ x.board
  pub now : y.now ≡ x.now
  pub asked : y.asked ≡ x.asked
  pub leaving : y.leaving ≡ x.leaving
  pub stored : y.stored ≡ x.stored
  pub expired : y.expired ≡ x.expired

module _ {c : Conf} (st : Settings) (P : ServerPart c) (B : Beside st P) where
  -- moves, one after another, with what is beside the machine, and what they put out
  pub data LeadsBeside : Upper P.State → B.Kept → List Out → Upper P.State → B.Kept → Type 0 where
    Arrives : (x : Upper P.State) (e : B.Kept) → LeadsBeside x e [] x e
    Then : (x : Upper P.State) (e : B.Kept) (d : Made P.State) (f : B.Kept) (outs : List Out) (y : Upper P.State) (g : B.Kept) (m : Move c st composed P x d) → B.Does x d m e f → LeadsBeside d.state f outs y g → LeadsBeside x e (d.outs ++ outs) y g

  -- the moves of a row, and rows
  abbrev pub AllBeside : (x : Upper P.State) (d : Made P.State) → Moves c st composed P x d → (e f : B.Kept) → Type 0
  AllBeside _ _ (Rests x done) e f = f ≡ e
  AllBeside _ _ (Goes x d y move more) e f = (g : B.Kept) × B.Does x d move e g × AllBeside d.state y more g f

  abbrev pub RunBeside : (x : Upper P.State) (rows : List Row) → IsRun c st composed P x rows → B.Kept → Type 0
  RunBeside _ _ (Ends x) e = Unit {0}
  RunBeside _ _ (Goes_on x row y rows step more) e = (f : B.Kept) × AllBeside (row_begins c st composed P row.event x) step.made step.moves e f × RunBeside y rows more f

  module _ {U R : Type 0} (t : Transport Request U R) (IsHanded : R → Type 0) (Tied : Phase → U → Sight → Upper P.State → B.Kept → Type 0) (names : U → (ticket : ℕ) → Option ℕ) (Owns : U → (timer : ℕ) → Type 0) where
    -- What a call leaves of a transport u and its view v is what moves from `start` leave, and it is tied again: each result on the board is that of a request that leaves. `from` is what is otherwise as it was. `named` has the tickets whose results may be given.
    pub record Leaves (named : ℕ → Option ℕ) (start from : Upper P.State) (e : B.Kept) (u : U) (v : View) (phase : Phase) (w : U) (y : View) : Type 0 where
      pub outs : List Out
      pub end : Upper P.State
      pub kept : B.Kept
      pub leads : LeadsBeside start e outs end kept
      pub put : y.outs ≡ v.outs ++ outs
      pub board : List Posted
      pub posted : y.board ≡ v.board ++ board
      pub leaving : List Leaving
      pub leaves : end.leaving ≡ from.leaving ++ leaving
      pub gives : Gives named board (map reply_of leaving) (names w)
      pub marked : AreMarked board leaving
      pub now : end.now ≡ from.now
      pub asked : end.asked ≡ from.asked
      pub pending : end.pending ≡ from.pending
      pub tried : WereTried from.held end.held
      pub tied : Tied phase w (sight y) end kept
      pub goes_on : Follows v y
      -- a timer of its own is one that it had, or a new one, and others stay as they are
      pub owned : (i : ℕ) → Owns w i → Owns u i ⊎ (v.timers.next ≤ i)
      pub others : (i due : ℕ) → (Owns u i → ⊥) → due_of i v.timers.set ≡ Some due → due_of i y.timers.set ≡ Some due

    -- The same after an event, or after a frame: `more` says whether another frame stands at the place.
    pub record Tells (from : Upper P.State) (e : B.Kept) (u : U) (v : View) (MayBe : (place left : ℕ) → Type 0) (w : U) (y : View) : Type 0 where
      pub at : ℕ
      pub left : ℕ
      pub may_be : MayBe at left
      pub more : y.more ≡ nat_lt 0 left
      pub leaves : Leaves (names u) from from e u v (Told at left) w y

    -- A request that is given up gives nothing.
    pub record LeavesQuietly (named : ℕ → Option ℕ) (from : Upper P.State) (e : B.Kept) (u : U) (v : View) (phase : Phase) (w : U) (y : View) : Type 0 where
      pub leaves : Leaves named from from e u v phase w y
      pub nothing : leaves.board ≡ []

    -- A request was asked: it was answered, or it is tried, and then what stands for its result was handed on.
    pub record HasAsked (r : Request) (from : Upper P.State) (e : B.Kept) (u : U) (v : View) (w : U) (y : View) : Type 0 where
      pub leaves : Leaves (with_at v.ticket (Some v.request) (names u)) from (take_on r None from) e u v (Untold (Ask r)) w y
      pub handed : (k : ℕ) → names w v.ticket ≡ Some k → IsHanded (t.response r u v)

-- The tie of a transport to a client: `Tied` relates what it is, and what is seen, to the client's state and what is beside that. `names` has the number of the request of each ticket whose result is to come, `stale` what stands in for it, and it owns the timers that it set. A timer that fires is taken out before. Nothing leaves while a call is made.
pub record IsClientTie {c : Conf} (st : Settings) (P : ServerPart c) (B : Beside st P) {U R : Type 0} (t : Transport Request U R) (ticket : R → ℕ) (stale : R → U → View → Option Octets) (IsHanded : R → Type 0) (first : U) (Tied : Phase → U → Sight → Upper P.State → B.Kept → Type 0) (names : U → (ticket : ℕ) → Option ℕ) (Owns : U → (timer : ℕ) → Type 0) : Type 0 where
  pub fresh : (x : Sight) → x.now ≡ 0 → x.place ≡ 0 → Tied (Told 0 0) first x (begun c st composed P) B.first
  -- it looks at no timer of others, and at numbers only from below
  pub same : (phase : Phase) (u : U) (x y : Sight) (a : Upper P.State) (e : B.Kept) → Tied phase u x a e → y.now ≡ x.now → ((i : ℕ) → Owns u i → y.dues i ≡ x.dues i) → x.timer ≤ y.timer → x.ticket ≤ y.ticket → y.place ≡ x.place → Tied phase u y a e
  -- what leaves is put out, and stored
  pub replies : (phase : Phase) (u : U) (x : Sight) (a : Upper P.State) (e : B.Kept) (z : Leaving) (zs : List Leaving) (is : a.leaving ≡ z ∷ zs) → Tied phase u x a e
      → (f : B.Kept) × B.Does a _ (Replies [] zs z is) e f × Tied phase u x (record a { leaving = zs; stored = store a.now z a.stored }) f
  pub taken : (phase : Phase) (u : U) (x : Sight) (a : Upper P.State) (e : B.Kept) → Tied phase u x a e → a.board ≡ []
  pub set : (phase : Phase) (u : U) (x : Sight) (a : Upper P.State) (e : B.Kept) (i : ℕ) → Tied phase u x a e → Owns u i → (due : ℕ) × (x.dues i ≡ Some due)
  pub named : (phase : Phase) (u : U) (x : Sight) (a : Upper P.State) (e : B.Kept) (i k : ℕ) → Tied phase u x a e → names u i ≡ Some k → (i < x.ticket) × (is_some (a.held k) ≡ true)
  pub held : (phase : Phase) (u : U) (x : Sight) (a : Upper P.State) (e : B.Kept) (k : ℕ) → Tied phase u x a e → is_some (a.held k) ≡ true → (i : ℕ) × (names u i ≡ Some k)
  pub response : (r : Request) (u : U) (v : View) → ticket (t.response r u v) ≡ v.ticket
  -- servers hold those requests alone that are tried, and each of these is held by one
  pub tried_alone : (phase : Phase) (u : U) (x : Sight) (a : Upper P.State) (e : B.Kept) (s k : ℕ) → Tied phase u x a e → s < length c.servers → P.holds (a.ups s) k ≡ true → is_some (a.held k) ≡ true
  pub waits : (phase : Phase) (u : U) (x : Sight) (a : Upper P.State) (e : B.Kept) (k : ℕ) → Tied phase u x a e → is_some (a.held k) ≡ true → (s : ℕ) × (s < length c.servers) × (P.holds (a.ups s) k ≡ true)
  -- a row begins; and where it may end, and no timer is due, each server rests
  pub begins : (phase : Phase) (u : U) (x : Sight) (a : Upper P.State) (e : B.Kept) (event : Event) → MayEnd phase → IsInOctets event.what → a.leaving ≡ [] → Tied phase u x a e → Tied (Untold event.what) u (record x { now = max event.moment.0 x.now }) (row_begins c st composed P event a) e
  pub rests : (phase : Phase) (u : U) (v : View) (a : Upper P.State) (e : B.Kept) (s : ℕ) → MayEnd phase → IsEarly v → Tied phase u (sight v) a e → s < length c.servers → P.Rests (a.ups s)
  -- The calls. Requests are asked and given up before the event is told.
  pub fires : (phase : Phase) (u : U) (v : View) (a : Upper P.State) (e : B.Kept) (i due : ℕ) → Tied phase u (sight v) a e → a.leaving ≡ [] → IsFair v → due_of i v.timers.set ≡ Some due → due ≤ v.now
      → Leads (Leaves st P B t IsHanded Tied names Owns (names u) a a e u (record v { timers = cancelled i v.timers }) phase) (t.step (due_timer i) u (record v { timers = cancelled i v.timers }))
  pub asks : (u : U) (v : View) (a : Upper P.State) (e : B.Kept) (r : Request) → Tied (Untold (Ask r)) u (sight v) a e → a.leaving ≡ [] → IsFair v → IsOfOctets r → a.pending ≡ Ask r → a.asked ≡ v.request → a.held v.request ≡ None
      → Leads (HasAsked st P B t IsHanded Tied names Owns r a e u v) (t.send r u v)
  -- what stands in for a request that is tried, when its deadline passes
  pub expires : (u : U) (v : View) (a : Upper P.State) (e : B.Kept) (w : What) (r : R) (k : ℕ) (b : Waiting) → Tied (Untold w) u (sight v) a e → names u (ticket r) ≡ Some k → IsHanded r → a.held k ≡ Some b → StandsIn st a.now b.request (a.expired k) (stale r u v)
  pub cancels : (u : U) (v : View) (a b : Upper P.State) (e : B.Kept) (w : What) (r : R) (k : ℕ) → Tied (Untold w) u (sight v) a e → a.leaving ≡ [] → IsFair v → names u (ticket r) ≡ Some k → IsHanded r → IsWithout k a b
      → Leads (LeavesQuietly st P B t IsHanded Tied names Owns (with_at (ticket r) None (names u)) b e u v (Untold w)) (t.cancel r u v)
  pub tells : (u : U) (v : View) (a : Upper P.State) (e : B.Kept) (w : What) (p : ℕ) → Tied (Untold w) u (sight v) a e → a.leaving ≡ [] → IsFair v → IsEarly v → v.more ≡ false → place_in w ≡ Some p
      → Leads (Tells st P B t IsHanded Tied names Owns a e u v (MayLeave w)) (t.step (told w) u v)
  pub takes : (u : U) (v : View) (a : Upper P.State) (e : B.Kept) (p n : ℕ) → Tied (Told p (suc n)) u (sight v) a e → a.leaving ≡ [] → IsFair v → v.more ≡ false
      → Leads (Tells st P B t IsHanded Tied names Owns a e u v (λ q left. (q ≡ p) × (left ≤ n))) (t.step (more_at p) u v)
