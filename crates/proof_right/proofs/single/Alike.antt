-- When a client of parts is as the client of one server is, and how places are given on and replies put out there.
use Rattle.right_trace.specs.Time.{max_places}
use Rattle.std.proofs.Common.{◌≡◌, ◌≢◌, ℕ, suc, ◌<◌, Bool, true, false, inl, inr, Option, Some, None, List, [], ◌∷◌, ◌++◌, length, refl, arith, sym, ap, subst, ◌∙◌, ◌==◌}
use Rattle.std.specs.Prelude.{if◌then◌else◌, ◌||◌, Result, option_map}
use Rattle.std.proofs.lemmas.Bool.Decides.{nat_tests}
use Rattle.std.proofs.lemmas.Bool.{cases_eq}
use Rattle.client_request.specs.Request.{Request}
use Rattle.client_request.specs.declared.error.Error.{Error}
use Rattle.client_request.specs.declared.event.What.{What}
use Rattle.client_request.specs.declared.event.Out.{Out}
use Rattle.client_request.specs.declared.event.Out.TheVariants.{OpenDgram, Reply}
use Rattle.right_trace.specs.Trace.{Conf}
use Rattle.right_trace.specs.Messages.{Octets}
use Rattle.right_trace.specs.Settings.{Settings}
use Rattle.right_trace.specs.Parts.{IsIn}
use Rattle.proof_right.specs.machine.Streams.{Multi, Puts}
use Rattle.proof_right.specs.machine.Dgrams.{Dgrams, Tryer}
use Rattle.proof_right.specs.machine.Served.{Served, served, has_moved, does, IsSettled, AsItIs}
use Rattle.proof_right.specs.machine.Client.{Waiting, Leaving, Upper, Made, Move, Moves, Rests, Goes, IsDone, Server_moves, Replies, told_of, moved, with_up, store}
use Rattle.proof_right.specs.machine.Dgrams as dgrams
use Rattle.proof_right.specs.machine.Served as served_by
use Rattle.proof_right.specs.machine.Single.{Stage, Queued, Loose, Trying, Sent, Held, State, staged, try, put_back, give_held, give_to, give}

-- A request as a server holds it, and as the client does: handed to server 0 alone.
abbrev pub stage_in : Stage → dgrams.Stage
stage_in Queued = dgrams.Queued
stage_in Loose = dgrams.Queued
stage_in (Trying p) = dgrams.Trying p
stage_in (Sent p id t) = dgrams.Sent p id t

abbrev pub tryer_of : Held → Tryer
tryer_of a = record { request = a.request; tries = a.tries; stage = stage_in a.stage }

abbrev pub waiting_of : Held → Waiting
waiting_of a = record { request = a.request; moment = a.moment; tried = λ t. (0 == t) || false; kept_back = [] }

-- One function has at each place what is made of the other.
abbrev pub Follows : {A B : Type 0} → (A → B) → (f : ℕ → Option A) → (g : ℕ → Option B) → Type 0
Follows make f g = (k : ℕ) → g k ≡ option_map make (f k)

module _ {A B : Type 0} (make : A → B) (f : ℕ → Option A) (g : ℕ → Option B) (same : Follows make f g) where
  pub both_at : (k : ℕ) (v : Option A) (w : Option B) → w ≡ option_map make v → Follows make (λ j. if k == j then v else f j) (λ j. if k == j then w else g j)
  both_at k v w e j = go (k == j)
    where
      go : (b : Bool) → (if b then w else g j) ≡ option_map make (if b then v else f j)
      go true = e
      go false = same j

  pub one_at : (k : ℕ) (v : Option A) → option_map make v ≡ g k → Follows make (λ j. if k == j then v else f j) g
  one_at k v e j = elim (cases_eq k j) [
    | inl is ↦ (let t : (k == j) ≡ true = grind (arith, nat_tests) in rw t (ap g (sym is) ∙ sym e))
    | inr ne ↦ (let t : (k == j) ≡ false = grind (arith, nat_tests) in rw t (same j))
  ]

-- no stream is open, nor asked for
pub record Still (m : Multi) : Type 0 where
  pub asks : (k : ℕ) → m.asks k ≡ None
  pub conns : (p : ℕ) → m.conns p ≡ None
  pub opening : m.opening ≡ None

-- a server that nothing was handed to
pub record Idle (w : What) (u : Served) : Type 0 where
  pub pending : u.pending ≡ w
  pub held : (k : ℕ) → u.server.by_dgram.held k ≡ None
  pub at : (p : ℕ) → u.server.by_dgram.at p ≡ None
  pub still : Still u.server.by_stream
  pub frames : u.frames ≡ []

-- what is pending: for the client, for its first server, which has taken it or not, and for the other servers
pub record Told : Type 0 where
  pub upper : What
  pub first : What
  pub taken : Bool
  pub others : What

-- The first server's part is as the one server is.
pub record Mirrors (u : Served) (s : State) : Type 0 where
  pub clock : u.clock ≡ s.now
  pub held : Follows tryer_of s.held u.server.by_dgram.held
  pub at : (p : ℕ) → u.server.by_dgram.at p ≡ s.at p
  pub used : u.server.by_dgram.used ≡ s.used
  pub still : Still u.server.by_stream
  pub frames : u.frames ≡ []

pub record IsTold (w : What) (b : Bool) (u : Served) : Type 0 where
  pub pending : u.pending ≡ w
  pub taken : u.taken ≡ b

-- The client is as that of one server, but for these results that are to be put out.
pub record Alike (t : Told) (out : List Leaving) (x : Upper Served) (s : State) : Type 0 where
  pub now : x.now ≡ s.now
  pub asked : x.asked ≡ s.asked
  pub place : x.place ≡ s.opened
  pub held : Follows waiting_of s.held x.held
  pub first : Mirrors (x.ups 0) s
  pub told : IsTold t.first t.taken (x.ups 0)
  pub others : (i : ℕ) → 0 ≢ i → Idle t.others (x.ups i)
  pub pending : x.pending ≡ t.upper
  pub board : x.board ≡ []
  pub leaving : x.leaving ≡ out

-- what the first server does leaves the others
pub others_stay : (w : What) (ups : ℕ → Served) (u : Served) → ((i : ℕ) → 0 ≢ i → Idle w (ups i)) → (i : ℕ) → 0 ≢ i → Idle w (with_up 0 u ups i)
others_stay w ups u idle i ne = subst (Idle w) (sym (away i ne)) (idle i ne)
  where
    away : (i : ℕ) → 0 ≢ i → with_up 0 u ups i ≡ ups i
    away i ne = grind (arith, nat_tests)

-- only what is held counts of what is held
pub alike_so : (t : Told) (out : List Leaving) (x : Upper Served) (s : State) (f : ℕ → Option Held) → ((k : ℕ) → f k ≡ s.held k) → Alike t out x s → Alike t out x (record s { held = f })
alike_so t out x s f same a = record {
  now = a.now;
  asked = a.asked;
  place = a.place;
  held = λ k. a.held k ∙ ap (option_map waiting_of) (sym (same k));
  first = (let u = a.first in record { clock = u.clock; held = λ k. u.held k ∙ ap (option_map tryer_of) (sym (same k)); at = u.at; used = u.used; still = u.still; frames = u.frames });
  told = a.told;
  others = a.others;
  pending = a.pending;
  board = a.board;
  leaving = a.leaving;
}

-- none of these has a result that is to be given, or a cut answer
pub settled_all : (f : ℕ → Option Held) (d : Dgrams) → Follows tryer_of f d.held → IsSettled d
settled_all f d same k a held = go (f k) (sym (same k) ∙ held)
  where
    not_ending : (st : Stage) (x : Result Octets Error) → stage_in st ≢ dgrams.Ending x
    not_ending Queued x = λ e. cc
    not_ending Loose x = λ e. cc
    not_ending (Trying p) x = λ e. cc
    not_ending (Sent p id t) x = λ e. cc

    go : (o : Option Held) → option_map tryer_of o ≡ Some a → (x : Result Octets Error) → a.stage ≢ dgrams.Ending x
    go None e = absurd (cc)
    go (Some b) e = (let is : tryer_of b ≡ a = cc in λ x. subst (λ (a : Tryer). a.stage ≢ dgrams.Ending x) is (not_ending b.stage x))

-- nobody has a cut answer
pub none_cut : (f : ℕ → Option Held) (d : Dgrams) → Follows tryer_of f d.held → (k : ℕ) (a : Tryer) → d.held k ≡ Some a → a.stage ≢ dgrams.Cut
none_cut f d same k a held = go (f k) (sym (same k) ∙ held)
  where
    not_cut : (st : Stage) → stage_in st ≢ dgrams.Cut
    not_cut Queued = λ e. cc
    not_cut Loose = λ e. cc
    not_cut (Trying p) = λ e. cc
    not_cut (Sent p id t) = λ e. cc

    go : (o : Option Held) → option_map tryer_of o ≡ Some a → a.stage ≢ dgrams.Cut
    go None e = absurd (cc)
    go (Some b) e = (let is : tryer_of b ≡ a = cc in subst (λ (a : Tryer). a.stage ≢ dgrams.Cut) is (not_cut b.stage))

module _ (c : Conf) (st : Settings) (compose : Request → Result Octets Error) where
  -- a chain of moves
  pub data Leads : Upper Served → List Out → Upper Served → Type 0 where
    Stays : (x : Upper Served) → Leads x [] x
    Then : (x : Upper Served) (d : Made Served) (outs : List Out) (y : Upper Served) → Move c st compose (served c) x d → Leads d.state outs y → Leads x (d.outs ++ outs) y

  same_outs : (x : Upper Served) (a b : List Out) (y : Upper Served) → a ≡ b → Leads x a y → Leads x b y
  same_outs x a b y e l = subst (λ o. Leads x o y) e l

  pub leads_on : (x : Upper Served) (a : List Out) (y : Upper Served) (b : List Out) (z : Upper Served) → Leads x a y → Leads y b z → Leads x (a ++ b) z
  leads_on _ _ _ b z (Stays x) m = m
  leads_on _ _ _ b z (Then x d outs y f l) m = same_outs x (d.outs ++ (outs ++ b)) ((d.outs ++ outs) ++ b) z (sym (append_assoc d.outs outs b)) (Then x d (outs ++ b) z f (leads_on d.state outs y b z l m))
    where
      append_assoc : (a b e : List Out) → (a ++ b) ++ e ≡ a ++ (b ++ e)
      append_assoc [] b e = refl
      append_assoc (x ∷ a) b e = ap (λ l. x ∷ l) (append_assoc a b e)

  pub all_moves : (x : Upper Served) (outs : List Out) (y : Upper Served) → Leads x outs y → IsDone c st compose (served c) y → Moves c st compose (served c) x (record { state = y; outs = outs })
  all_moves _ _ _ (Stays x) done = Rests x done
  all_moves _ _ _ (Then x d outs y f l) done = Goes x d (record { state = y; outs = outs }) f (all_moves d.state outs y l done)

  -- moves lead to where the client is as that of one server is then
  pub record Does (t : Told) (out : List Leaving) (x : Upper Served) (s : State) (outs : List Out) : Type 0 where
    pub end : Upper Served
    pub leads : Leads x outs end
    pub alike : Alike t out end s

  pub then_does : (t t' : Told) (l l' : List Leaving) (x : Upper Served) (s s' : State) (a b : List Out) → Does t l x s a → ((y : Upper Served) → Alike t l y s → Does t' l' y s' b) → Does t' l' x s' (a ++ b)
  then_does t t' l l' x s s' a b d f = (let e = f d.end d.alike in record { end = e.end; leads = leads_on x a d.end b e.end d.leads e.leads; alike = e.alike })

  -- one move
  pub by_one : (t : Told) (l : List Leaving) (x : Upper Served) (d : Made Served) (s : State) → Move c st compose (served c) x d → Alike t l d.state s → Does t l x s d.outs
  by_one t l x d s f a = record { end = d.state; leads = same_outs x (d.outs ++ []) d.outs d.state (nil_end d.outs) (Then x d [] d.state f (Stays d.state)); alike = a }
    where
      nil_end : (a : List Out) → a ++ [] ≡ a
      nil_end [] = refl
      nil_end (x ∷ a) = ap (λ l. x ∷ l) (nil_end a)

  pub does_so : (t : Told) (l : List Leaving) (x : Upper Served) (s : State) (outs : List Out) (f : ℕ → Option Held) → ((k : ℕ) → f k ≡ s.held k) → Does t l x s outs → Does t l x (record s { held = f }) outs
  does_so t l x s outs f same d = record { end = d.end; leads = d.leads; alike = alike_so t l d.end s f same d.alike }

  -- a request that waits takes the next place
  pub takes_place : (t : Told) (l : List Leaving) (x : Upper Served) (s : State) (k : ℕ) (a : Held) → 0 < length c.servers → Alike t l x s → s.held k ≡ Some a → stage_in a.stage ≡ dgrams.Queued → s.used < max_places c → Does t l x (try k a s) (OpenDgram s.opened 0 ∷ [])
  takes_place t l x s k a some alike held stage free =
      subst (λ p. Does t l x (try k a s) (OpenDgram p 0 ∷ [])) alike.place
      (by_one t l x (record { state = moved 0 (does (has_moved (record (x.ups 0).server { by_dgram = d' }) (x.ups 0)) x.place (Puts (OpenDgram x.place 0))) x; outs = OpenDgram x.place 0 ∷ [] }) (try k a s)
      (Server_moves 0 (does (has_moved (record (x.ups 0).server { by_dgram = d' }) (x.ups 0)) x.place (Puts (OpenDgram x.place 0))) some (served_by.ByDgram (Puts (OpenDgram x.place 0)) d' _ (dgrams.Opens k (tryer_of a) is stage (subst (λ n. n < max_places c) (sym alike.first.used) free)) (AsItIs (settled_all (try k a s).held d' follows))))
      (record {
        now = alike.now;
        asked = alike.asked;
        place = ap suc alike.place;
        held = one_at waiting_of s.held x.held alike.held k (Some (staged a (Trying s.opened))) (sym (alike.held k ∙ ap (option_map waiting_of) held));
        first = record { clock = alike.first.clock; held = follows; at = places; used = ap suc alike.first.used; still = alike.first.still; frames = alike.first.frames };
        told = record { pending = alike.told.pending; taken = alike.told.taken };
        others = others_stay t.others x.ups (has_moved (record (x.ups 0).server { by_dgram = d' }) (x.ups 0)) alike.others;
        pending = alike.pending;
        board = ap (λ b. b ++ []) alike.board;
        leaving = alike.leaving;
      }))
    where
      d : Dgrams
      d = (x.ups 0).server.by_dgram

      d' : Dgrams
      d' = dgrams.try_at x.place k (tryer_of a) d

      is : d.held k ≡ Some (tryer_of a)
      is = alike.first.held k ∙ ap (option_map tryer_of) held

      follows : Follows tryer_of (try k a s).held d'.held
      follows = both_at tryer_of s.held d.held alike.first.held k (Some (staged a (Trying s.opened))) (Some (dgrams.staged (tryer_of a) (dgrams.Trying x.place))) (ap (λ p. Some (dgrams.staged (tryer_of a) (dgrams.Trying p))) alike.place)

      places : (p : ℕ) → d'.at p ≡ (try k a s).at p
      places p = ap (λ q. if q == p then Some k else d.at p) alike.place ∙ go (s.opened == p)
        where
          go : (b : Bool) → (if b then Some k else d.at p) ≡ (if b then Some k else s.at p)
          go true = refl
          go false = alike.first.at p

  -- a free place is given on to the request that waits longest
  pub gives : (t : Told) (l : List Leaving) (x : Upper Served) (s : State) → 0 < length c.servers → ((k : ℕ) → IsIn k s.queue → (a : Held) × (s.held k ≡ Some a) × (a.stage ≡ Queued)) → s.used < max_places c → Alike t l x s → Does t l x (give s).state (give s).outs
  gives t l x s some queued free alike = go s.queue queued
    where
      none : (q : List ℕ) → Alike t l x (put_back q s)
      none q = record { now = alike.now; asked = alike.asked; place = alike.place; held = alike.held; first = record { clock = alike.first.clock; held = alike.first.held; at = alike.first.at; used = alike.first.used; still = alike.first.still; frames = alike.first.frames }; told = alike.told; others = alike.others; pending = alike.pending; board = alike.board; leaving = alike.leaving }

      go : (q : List ℕ) → ((k : ℕ) → IsIn k q → (a : Held) × (s.held k ≡ Some a) × (a.stage ≡ Queued)) → Does t l x (give_to q s).state (give_to q s).outs
      go [] f = record { end = x; leads = Stays x; alike = alike }
      go (k ∷ q) f =
          let a = f k (inl refl) in
          subst (λ o. Does t l x (give_held k o (put_back q s)).state (give_held k o (put_back q s)).outs) (sym a.1) (takes_place t l x (put_back q s) k a.0 some (none q) a.1 (ap stage_in a.2) free)

  -- the one result that is to be put out is
  pub replies : (t : Told) (x : Upper Served) (s : State) (z : Leaving) → z.stale ≡ None → Alike t (z ∷ []) x s → Does t [] x s (Reply z.request z.result ∷ [])
  replies t x s z plain alike =
      by_one t [] x (record { state = record x { leaving = []; stored = store x.now z x.stored }; outs = Reply z.request z.result ∷ [] }) s (subst (λ o. Move c st compose (served c) x (record { state = record x { leaving = []; stored = store x.now z x.stored }; outs = told_of z.request z.result o })) plain (Replies [] [] z alike.leaving))
      (record { now = alike.now; asked = alike.asked; place = alike.place; held = alike.held; first = alike.first; told = alike.told; others = alike.others; pending = alike.pending; board = alike.board; leaving = refl })
