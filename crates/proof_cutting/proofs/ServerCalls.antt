-- Calls at the servers of a choice, beside those at the same servers with longer octets.
use Rattle.std.proofs.Common.{◌≡◌, ◌≢◌, ℕ, zero, suc, ◌≤◌, ◌⊎◌, inl, inr, le_refl, le_trans, Bool, List, [], ◌∷◌, Option, Some, None, refl, sym, ap, subst, ◌∙◌, slice_get}
use Rattle.std.specs.Prelude.{set, option_map}
use Rattle.client_request.specs.Board.{without_part}
use Rattle.client_request.specs.Numbered.{frees}
use Rattle.client_request.specs.View.{View, Transport, due_timer}
use Rattle.client_request.specs.declared.board.Posted.{Posted}
use Rattle.client_request.specs.declared.event.Out.{Out}
use Rattle.client_choice.specs.Servers.{Server, onto, starts, starts_found, starts_at, hears, hears_found, hears_at, drops, drops_found, drops_at, judged, judges, judges_found, owner, owner_at, disowned, disowned_at}
use Rattle.client_choice.specs.declared.servers.Reply.{Reply}
use Rattle.proof_cutting.specs.Pieces.{like, Both, Neither, Each, IsCuttable, PostsNothing}
use Rattle.proof_cutting.specs.Choices.{longer_servers, AreFitServers}
use Rattle.proof_cutting.proofs.Views.{map_both}
use Rattle.proof_cutting.proofs.Listed.{longer_one, longer_get, longer_set, seen, seen_at, fit_set}

module _ {U : Type 0} {longer : U → U} {before : List Out} {Leaves : U → View → Type 0} where
  -- the first call left it
  left_too : {r r' : Option (U × View)} → Both longer before Leaves r r' → Both longer before (λ u v. Leaves u v × (r ≡ Some (u, v))) r r'
  left_too Neither = Neither
  left_too (Each u v more request l) = Each u v more request (l, refl)

-- What is seen at a server before and after: where the place was closed, it stays so.
pub record IsNearing (Q : (a b : Option (List ℕ)) → Type 0) : Type 0 where
  pub same : (a : Option (List ℕ)) → Q a a
  pub next : (a b c : Option (List ℕ)) → Q a b → Q b c → Q a c
  pub had : (a b : Option (List ℕ)) → Q a b → b ≢ None → a ≢ None

abbrev pub Same : (a b : Option (List ℕ)) → Type 0
Same a b = b ≡ a

abbrev pub Closing : (a b : Option (List ℕ)) → Type 0
Closing a b = (b ≡ a) ⊎ (b ≡ None)

pub same_nearing : IsNearing Same
same_nearing = record {
  same = λ a. refl;
  next = λ a b c p q. q ∙ p;
  had = λ a b p some none. some (p ∙ none);
}

pub closing_nearing : IsNearing Closing
closing_nearing = record {
  same = λ a. inl refl;
  next = λ a b c p q. elim q [ inl e ↦ elim p [ inl d ↦ inl (e ∙ d) | inr d ↦ inr (e ∙ d) ] | inr e ↦ inr e ];
  had = λ a b p some none. elim p [ inl e ↦ some (e ∙ none) | inr e ↦ some e ];
}

module _ {U : Type 0} (octets : U → Option (List ℕ)) (IsFit : U → (timer : ℕ) → Type 0) (Q : (a b : Option (List ℕ)) → Type 0) where
  -- what a call leaves of one server
  pub record Leaves (s : Server U) (v : View) (t : Server U) (w : View) : Type 0 where
    pub fit : IsFit t.upstream w.timers.next
    pub posted : t.posted ≡ []
    pub timer : v.timers.next ≤ w.timers.next
    pub now : w.now ≡ v.now
    pub more : w.more ≡ v.more
    pub near : Q (octets s.upstream) (octets t.upstream)

  -- what one leaves of all of them
  pub record LeaveAll (servers : List (Server U)) (v : View) (after : List (Server U)) (w : View) : Type 0 where
    pub fit : AreFitServers octets IsFit after w.timers.next
    pub timer : v.timers.next ≤ w.timers.next
    pub now : w.now ≡ v.now
    pub more : w.more ≡ v.more
    pub near : (i : ℕ) → Q (seen octets servers i) (seen octets after i)

  near_set : (servers : List (Server U)) (k i : ℕ) (s t : Server U) → ((a : Option (List ℕ)) → Q a a) → slice_get servers k ≡ Some s → Q (octets s.upstream) (octets t.upstream)
      → Q (seen octets servers i) (seen octets (set servers k t) i)
  near_set [] k i s t same at near = same None
  near_set (x ∷ xs) zero zero s t same at near = subst (λ o. Q (seen octets (x ∷ xs) zero) (octets t.upstream)) at (subst (λ a. Q a (octets t.upstream)) (sym (seen_at octets (x ∷ xs) zero s at)) near)
  near_set (x ∷ xs) zero (suc i) s t same at near = same (seen octets xs i)
  near_set (x ∷ xs) (suc k) zero s t same at near = same (octets x.upstream)
  near_set (x ∷ xs) (suc k) (suc i) s t same at near = near_set xs k i s t same at near

  module _ (nearing : IsNearing Q) where
    pub leave_same : (servers : List (Server U)) (v : View) → AreFitServers octets IsFit servers v.timers.next → LeaveAll servers v servers v
    leave_same servers v f = record { fit = f; timer = le_refl v.timers.next; now = refl; more = refl; near = λ i. nearing.same (seen octets servers i) }

    pub leave_next : (a b c : List (Server U)) (u v w : View) → LeaveAll a u b v → LeaveAll b v c w → LeaveAll a u c w
    leave_next a b c u v w x y = record {
      fit = y.fit;
      timer = le_trans x.timer y.timer;
      now = y.now ∙ x.now;
      more = y.more ∙ x.more;
      near = λ i. nearing.next (seen octets a i) (seen octets b i) (seen octets c i) (x.near i) (y.near i);
    }

    pub leave_set : ((u : U) (n m : ℕ) → n ≤ m → IsFit u n → IsFit u m) → (servers : List (Server U)) (k : ℕ) (s t : Server U) (v w : View) → slice_get servers k ≡ Some s
        → AreFitServers octets IsFit servers v.timers.next → Leaves s v t w → LeaveAll servers v (set servers k t) w
    leave_set later servers k s t v w at f l = record {
      fit = fit_set octets IsFit servers v.timers.next w.timers.next k s t (λ u. later u v.timers.next w.timers.next l.timer) at l.fit l.posted (nearing.had (octets s.upstream) (octets t.upstream) l.near) f;
      timer = l.timer;
      now = l.now;
      more = l.more;
      near = λ i. near_set servers k i s t nearing.same at l.near;
    }

module _ {R U P : Type 0} (place : ℕ) (below : Transport R U P) (octets : U → Option (List ℕ)) (longer : List ℕ → U → U) (IsFit : U → (timer : ℕ) → Type 0) (cut : IsCuttable place below octets longer IsFit)
    (quiet : PostsNothing below IsFit) (piece : List ℕ) (before : List Out) where
  abbrev One : Server U → Server U
  One s = longer_one longer piece s

  abbrev All : List (Server U) → List (Server U)
  All servers = longer_servers longer piece servers

  starts_one : (ticket : ℕ) (request : R) (s : Server U) (v : View) (more : Bool) → IsFit s.upstream v.timers.next → s.posted ≡ []
      → Both (λ (x : Reply P × Server U). (x.0, One x.1)) before (λ x w. Leaves octets IsFit Same s v x.1 w) (starts below ticket request s v) (starts below ticket request (One s) (like before more v.request v))
  starts_one ticket request s v more fit posted = map_both _ _
      (left_too (cut.sends piece before more request s.upstream (onto s.posted v) fit))
      (λ u w more' request' h. rw (cut.response piece before more v.request request s.upstream (onto s.posted v)) (Each _ _ more' request' (record {
        fit = h.0.fit;
        posted = ap (λ (ps : List Posted). without_part v.ticket ps) (quiet.sent request s.upstream (onto s.posted v) u w fit h.1 ∙ posted);
        timer = h.0.timer;
        now = h.0.now;
        more = h.0.more;
        near = h.0.octets;
      })))

  drops_one : (lower : ℕ) (response : P) (s : Server U) (v : View) (more : Bool) (request : ℕ) → IsFit s.upstream v.timers.next → s.posted ≡ []
      → Both One before (λ t w. Leaves octets IsFit Same s v t w) (drops below lower response s v) (drops below lower response (One s) (like before more request v))
  drops_one lower response s v more request fit posted = map_both _ _
      (left_too (cut.cancels piece before more request response s.upstream (onto s.posted v) fit))
      (λ u w more' request' h. Each _ _ more' request' (record {
        fit = h.0.fit;
        posted = quiet.cancelled response s.upstream (onto s.posted v) u w fit h.1 ∙ posted;
        timer = h.0.timer;
        now = h.0.now;
        more = h.0.more;
        near = h.0.octets;
      }))

  fires_one : (timer : ℕ) (s : Server U) (v : View) (more : Bool) (request : ℕ) → IsFit s.upstream v.timers.next
      → Both (λ (x : List Posted × Server U). (x.0, One x.1)) before (λ x w. Leaves octets IsFit Closing s v x.1 w) (hears below (due_timer timer) s v) (hears below (due_timer timer) (One s) (like before more request v))
  fires_one timer s v more request fit = map_both _ _
      (cut.fires piece before more request timer s.upstream (onto s.posted v) fit)
      (λ u w more' request' h. Each _ _ more' request' (record {
        fit = h.fit;
        posted = refl;
        timer = h.timer;
        now = h.now;
        more = h.more;
        near = h.octets;
      }))

  -- the same at the server of an index
  pub starts_alike : (index ticket : ℕ) (request : R) (servers : List (Server U)) (v : View) (more : Bool) → AreFitServers octets IsFit servers v.timers.next
      → Both (λ (x : Option (Reply P) × List (Server U)). (x.0, All x.1)) before (λ x w. LeaveAll octets IsFit Same servers v x.1 w) (starts_at below index ticket request servers v)
      (starts_at below index ticket request (All servers) (like before more v.request v))
  starts_alike index ticket request servers v more f = rw (longer_get longer piece servers index) (by (slice_get servers index) refl)
    where
      by : (o : Option (Server U)) → slice_get servers index ≡ o
          → Both (λ (x : Option (Reply P) × List (Server U)). (x.0, All x.1)) before (λ x w. LeaveAll octets IsFit Same servers v x.1 w) (starts_found below index ticket request servers v o)
          (starts_found below index ticket request (All servers) (like before more v.request v) (option_map One o))
      by None at = Each _ _ more v.request (leave_same octets IsFit Same same_nearing servers v f)
      by (Some s) at = map_both _ _
          (starts_one ticket request s v more (f.fit index s at).0 (f.fit index s at).1)
          (λ x w more' request' h. rw (longer_set longer piece servers index x.1) (Each _ _ more' request' (leave_set octets IsFit Same same_nearing cut.later servers index s x.1 v w at f h)))

  pub drops_alike : (index lower : ℕ) (response : P) (servers : List (Server U)) (v : View) (more : Bool) (request : ℕ) → AreFitServers octets IsFit servers v.timers.next
      → Both All before (λ x w. LeaveAll octets IsFit Same servers v x w) (drops_at below index lower response servers v) (drops_at below index lower response (All servers) (like before more request v))
  drops_alike index lower response servers v more request f = rw (longer_get longer piece servers index) (by (slice_get servers index) refl)
    where
      by : (o : Option (Server U)) → slice_get servers index ≡ o
          → Both All before (λ x w. LeaveAll octets IsFit Same servers v x w) (drops_found below index lower response servers v o) (drops_found below index lower response (All servers) (like before more request v) (option_map One o))
      by None at = Each _ _ more request (leave_same octets IsFit Same same_nearing servers v f)
      by (Some s) at = map_both _ _
          (drops_one lower response s v more request (f.fit index s at).0 (f.fit index s at).1)
          (λ x w more' request' h. rw (longer_set longer piece servers index x) (Each _ _ more' request' (leave_set octets IsFit Same same_nearing cut.later servers index s x v w at f h)))

  pub fires_alike : (index timer : ℕ) (servers : List (Server U)) (v : View) (more : Bool) (request : ℕ) → AreFitServers octets IsFit servers v.timers.next
      → Both (λ (x : List Posted × List (Server U)). (x.0, All x.1)) before (λ x w. LeaveAll octets IsFit Closing servers v x.1 w) (hears_at below index (due_timer timer) servers v)
      (hears_at below index (due_timer timer) (All servers) (like before more request v))
  fires_alike index timer servers v more request f = rw (longer_get longer piece servers index) (by (slice_get servers index) refl)
    where
      by : (o : Option (Server U)) → slice_get servers index ≡ o
          → Both (λ (x : List Posted × List (Server U)). (x.0, All x.1)) before (λ x w. LeaveAll octets IsFit Closing servers v x.1 w) (hears_found below index (due_timer timer) servers v o)
          (hears_found below index (due_timer timer) (All servers) (like before more request v) (option_map One o))
      by None at = Each _ _ more request (leave_same octets IsFit Closing closing_nearing servers v f)
      by (Some s) at = map_both _ _
          (fires_one timer s v more request (f.fit index s at).0)
          (λ x w more' request' h. rw (longer_set longer piece servers index x.1) (Each _ _ more' request' (leave_set octets IsFit Closing closing_nearing cut.later servers index s x.1 v w at f h)))

  -- what is done at the servers above their transports
  pub judges_alike : (index : ℕ) (is_giver : Bool) (elapsed : ℕ) (servers : List (Server U)) → judges index is_giver elapsed (All servers) ≡ All (judges index is_giver elapsed servers)
  judges_alike index is_giver elapsed servers = rw (longer_get longer piece servers index) (by (slice_get servers index))
    where
      by : (o : Option (Server U)) → judges_found index is_giver elapsed (All servers) (option_map One o) ≡ All (judges_found index is_giver elapsed servers o)
      by None = refl
      by (Some s) = longer_set longer piece servers index (judged is_giver elapsed s)

  pub disowned_alike : (index lower : ℕ) (servers : List (Server U)) → disowned index lower (All servers) ≡ All (disowned index lower servers)
  disowned_alike index lower servers = rw (longer_get longer piece servers index) (by (slice_get servers index))
    where
      by : (o : Option (Server U)) → disowned_at index lower (All servers) (option_map One o) ≡ All (disowned_at index lower servers o)
      by None = refl
      by (Some s) = longer_set longer piece servers index (record s { waiting = frees lower s.waiting })

  pub owner_alike : (index lower : ℕ) (servers : List (Server U)) → owner index lower (All servers) ≡ owner index lower servers
  owner_alike index lower servers = rw (longer_get longer piece servers index) (by (slice_get servers index))
    where
      by : (o : Option (Server U)) → owner_at lower (option_map One o) ≡ owner_at lower o
      by None = refl
      by (Some s) = refl

  -- a server is changed that keeps its transport
  aside : (servers : List (Server U)) (k : ℕ) (s t : Server U) (v : View) → slice_get servers k ≡ Some s → t.upstream ≡ s.upstream → t.posted ≡ s.posted → AreFitServers octets IsFit servers v.timers.next
      → LeaveAll octets IsFit Same servers v (set servers k t) v
  aside servers k s t v at same posted f = leave_set octets IsFit Same same_nearing cut.later servers k s t v v at f (record {
    fit = subst (λ u. IsFit u v.timers.next) (sym same) (f.fit k s at).0;
    posted = posted ∙ (f.fit k s at).1;
    timer = le_refl v.timers.next;
    now = refl;
    more = refl;
    near = ap octets same;
  })

  pub judges_leave : (index : ℕ) (is_giver : Bool) (elapsed : ℕ) (servers : List (Server U)) (v : View) → AreFitServers octets IsFit servers v.timers.next
      → LeaveAll octets IsFit Same servers v (judges index is_giver elapsed servers) v
  judges_leave index is_giver elapsed servers v f = by (slice_get servers index) refl
    where
      by : (o : Option (Server U)) → slice_get servers index ≡ o → LeaveAll octets IsFit Same servers v (judges_found index is_giver elapsed servers o) v
      by None at = leave_same octets IsFit Same same_nearing servers v f
      by (Some s) at = aside servers index s (judged is_giver elapsed s) v at refl refl f

  pub disowned_leave : (index lower : ℕ) (servers : List (Server U)) (v : View) → AreFitServers octets IsFit servers v.timers.next → LeaveAll octets IsFit Same servers v (disowned index lower servers) v
  disowned_leave index lower servers v f = by (slice_get servers index) refl
    where
      by : (o : Option (Server U)) → slice_get servers index ≡ o → LeaveAll octets IsFit Same servers v (disowned_at index lower servers o) v
      by None at = leave_same octets IsFit Same same_nearing servers v f
      by (Some s) at = aside servers index s (record s { waiting = frees lower s.waiting }) v at refl refl f
