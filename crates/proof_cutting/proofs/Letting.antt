-- The servers of a choice let one of them alone hear what is at the place.
use Rattle.std.proofs.Common.{◌≡◌, ◌≢◌, ℕ, zero, suc, pred, ◌+◌, ◌-◌, ◌<◌, ◌≤◌, ◌⊎◌, inl, inr, le_refl, le_trans, arith, Bool, true, false, List, [], ◌∷◌, ◌++◌, length, Option, Some, None, refl, sym, ap, ap₂, subst, ◌∙◌, slice_get}
use Rattle.std.proofs.lemmas.Option.{slice_get_within}
use Rattle.std.specs.Prelude.{set, option_map, option_and_then}
use Rattle.client_request.specs.View.{View, Transport, Heard, told, more_at}
use Rattle.client_request.specs.declared.board.Posted.{Posted}
use Rattle.client_request.specs.declared.event.Out.{Out}
use Rattle.client_request.specs.declared.event.What.TheVariants.{Bytes}
use Rattle.client_settings.specs.Settings.{RedundantSettings}
use Rattle.client_stream.specs.Frames.{behind_frame}
use Rattle.client_choice.specs.Choice.{Choice, settles_all, hears_one, hears_some, hears_all}
use Rattle.client_choice.specs.Servers.{Server, onto, heard, hears, hears_found, hears_at}
use Rattle.proof_cutting.specs.Pieces.{like, stands, IsReady, Both, Neither, Each, Takes, IsCuttable, PostsNothing}
use Rattle.proof_cutting.specs.Choices.{servers_octets, longer_servers, AreFitServers}
use Rattle.proof_cutting.proofs.Views.{map_both, then_both, weaker}
use Rattle.client_choice.proofs.At.{set_here, set_there}
use Rattle.proof_cutting.proofs.Listed.{longer_one, longer_get, longer_set, seen, seen_at, whose, none_of, first_of_all, stand_at, alone_seen, fit_set}
use Rattle.proof_cutting.proofs.Choosing.{settles_all_alike}
use Rattle.proof_cutting.proofs.Hearing.{silent_one, silent_some, up_to_one}

map_same : {A B : Type 0} (f g : A → B) → ((x : A) → f x ≡ g x) → (o : Option A) → option_map f o ≡ option_map g o
map_same f g same None = refl
map_same f g same (Some x) = ap Some (same x)

-- what is done next is the same
then_same : {U V : Type 0} (longer : U → U) (before : List Out) (A : U → View → Type 0) (k l : U × View → Option (V × View)) (a b : Option (U × View)) → ((u : U) (v : View) → A u v → k (u, v) ≡ l (u, v))
    → Both longer before A a b → option_and_then k a ≡ option_and_then l a
then_same longer before A k l a b f Neither = refl
then_same longer before A k l a b f (Each u v more request h) = f u v h

module _ {U : Type 0} (octets : U → Option (List ℕ)) (IsFit : U → (timer : ℕ) → Type 0) where
  pub none_seen : (servers : List (Server U)) → servers_octets octets servers ≡ None → (i : ℕ) → seen octets servers i ≡ None
  none_seen servers none = by (stand_at octets servers)
    where
      by : ((i : ℕ) → seen octets servers i ≡ None) ⊎ ((k : ℕ) × (o : List ℕ) × (seen octets servers k ≡ Some o) × (servers_octets octets servers ≡ Some o)) → (i : ℕ) → seen octets servers i ≡ None
      by (inl all) = all
      by (inr there) = λ i. absurd (let e : None ≡ Some there.1 = sym none ∙ there.3 in cc)

  -- one alone has the place
  pub others_none : (servers : List (Server U)) (n k : ℕ) (o : List ℕ) → AreFitServers octets IsFit servers n → seen octets servers k ≡ Some o → (i : ℕ) → (k ≡ i → ⊥) → seen octets servers i ≡ None
  others_none servers n k o f at i ne = by (seen octets servers i) refl
    where
      by : (p : Option (List ℕ)) → seen octets servers i ≡ p → seen octets servers i ≡ None
      by None e = e
      by (Some p) e = absurd (ne (alone_seen octets IsFit servers n f k i (λ q. let z : Some o ≡ None = sym at ∙ q in cc) (λ q. let z : Some p ≡ None = sym e ∙ q in cc)))

  -- what stands there is what stands at the first that has it
  pub whole_seen : (servers : List (Server U)) (k : ℕ) → ((i : ℕ) → (k ≡ i → ⊥) → seen octets servers i ≡ None) → servers_octets octets servers ≡ seen octets servers k
  whole_seen servers k others = by (seen octets servers k) refl (stand_at octets servers)
    where
      by : (p : Option (List ℕ)) → seen octets servers k ≡ p → ((i : ℕ) → seen octets servers i ≡ None) ⊎ ((j : ℕ) × (o : List ℕ) × (seen octets servers j ≡ Some o) × (servers_octets octets servers ≡ Some o)) → servers_octets octets servers ≡ p
      by (Some o) e there = first_of_all octets servers k o e others
      by None e (inl none) = none_of octets servers none
      by None e (inr there) = absurd (let z : Some there.1 ≡ None = sym there.2 ∙ others there.0 (λ q. let y : None ≡ Some there.1 = sym e ∙ (ap (seen octets servers) q ∙ there.2) in cc) in cc)

  module _ (longer : List ℕ → U → U) (closed : (piece : List ℕ) (u : U) → octets u ≡ None → longer piece u ≡ u) (piece : List ℕ) where
    one_closed : (s : Server U) → octets s.upstream ≡ None → longer_one longer piece s ≡ s
    one_closed s none = ap (λ u. record s { upstream = u }) (closed piece s.upstream none)

    pub all_closed : (servers : List (Server U)) → ((i : ℕ) → seen octets servers i ≡ None) → longer_servers longer piece servers ≡ servers
    all_closed [] none = refl
    all_closed (s ∷ more) none = ap₂ (λ (s : Server U) (xs : List (Server U)). s ∷ xs) (one_closed s (none zero)) (all_closed more (λ i. none (suc i)))

    set_closed : (servers : List (Server U)) (k : ℕ) (t : Server U) → ((i : ℕ) → (k ≡ i → ⊥) → seen octets servers i ≡ None) → set (longer_servers longer piece servers) k t ≡ set servers k t
    set_closed [] k t others = refl
    set_closed (s ∷ more) zero t others = ap (λ (xs : List (Server U)). t ∷ xs) (all_closed more (λ i. others (suc i) (λ q. absurd (cc))))
    set_closed (s ∷ more) (suc k) t others = ap₂ (λ (s : Server U) (xs : List (Server U)). s ∷ xs) (one_closed s (others zero (λ q. absurd (cc)))) (set_closed more k t (λ i ne. others (suc i) (λ q. ne (ap pred q))))

within : {U : Type 0} (octets : U → Option (List ℕ)) (servers : List (Server U)) (k : ℕ) (o : List ℕ) → seen octets servers k ≡ Some o → k < 0 + length servers
within octets servers k o at =
    let x = whose octets servers k (λ none. let z : Some o ≡ None = sym at ∙ none in cc) in
    let lt : k < length servers = slice_get_within servers k x.0 x.1 in
    omega arith

module _ {R U P : Type 0} (place : ℕ) (below : Transport R U P) (octets : U → Option (List ℕ)) (longer : List ℕ → U → U) (IsFit : U → (timer : ℕ) → Type 0) (cut : IsCuttable place below octets longer IsFit) (piece : List ℕ) where
  seen_long : (servers : List (Server U)) (i : ℕ) → seen octets (longer_servers longer piece servers) i ≡ option_map (λ o. o ++ piece) (seen octets servers i)
  seen_long servers i = rw (longer_get longer piece servers i) (by (slice_get servers i))
    where
      by : (o : Option (Server U)) → option_and_then (λ (s : Server U). octets s.upstream) (option_map (longer_one longer piece) o) ≡ option_map (λ o. o ++ piece) (option_and_then (λ (s : Server U). octets s.upstream) o)
      by None = refl
      by (Some s) = cut.behind piece s.upstream

  none_long : (servers : List (Server U)) (i : ℕ) → seen octets servers i ≡ None → seen octets (longer_servers longer piece servers) i ≡ None
  none_long servers i none = seen_long servers i ∙ ap (option_map (λ o. o ++ piece)) none

  was_short : (servers : List (Server U)) (i : ℕ) (t : Server U) → slice_get (longer_servers longer piece servers) i ≡ Some t → (s : Server U) × (slice_get servers i ≡ Some s) × (longer_one longer piece s ≡ t)
  was_short servers i t at = by (slice_get servers i) refl (sym (longer_get longer piece servers i) ∙ at)
    where
      by : (o : Option (Server U)) → slice_get servers i ≡ o → option_map (longer_one longer piece) o ≡ Some t → (s : Server U) × (slice_get servers i ≡ Some s) × (longer_one longer piece s ≡ t)
      by None is e = absurd (cc)
      by (Some s) is e = (s, is, cc)

  pub fit_long : (servers : List (Server U)) (n : ℕ) → AreFitServers octets IsFit servers n → AreFitServers octets IsFit (longer_servers longer piece servers) n
  fit_long servers n f = record {
    fit = λ i t at. (let s = was_short servers i t at in subst (λ (t : Server U). IsFit t.upstream n × (t.posted ≡ [])) s.2 (let g = f.fit i s.0 s.1 in (cut.fits piece s.0.upstream n g.0, g.1)));
    alone = λ i j a b at bt na nb. (let s = was_short servers i a at in let t = was_short servers j b bt in f.alone i j s.0 t.0 s.1 t.1 (had a s.0 s.2 na) (had b t.0 t.2 nb));
  }
    where
      had : (t s : Server U) → longer_one longer piece s ≡ t → octets t.upstream ≢ None → octets s.upstream ≢ None
      had t s is some none = some (sym (ap (λ (t : Server U). octets t.upstream) is) ∙ (cut.behind piece s.upstream ∙ ap (option_map (λ o. o ++ piece)) none))

module _ {R U P : Type 0} (place : ℕ) (below : Transport R U P) (octets : U → Option (List ℕ)) (longer : List ℕ → U → U) (IsFit : U → (timer : ℕ) → Type 0) (cut : IsCuttable place below octets longer IsFit)
    (quiet : PostsNothing below IsFit) (piece : List ℕ) (before : List Out) (settings : RedundantSettings) where
  abbrev One : Server U → Server U
  One s = longer_one longer piece s

  abbrev All : List (Server U) → List (Server U)
  All servers = longer_servers longer piece servers

  abbrev Long : Choice R U P → Choice R U P
  Long c = record c { servers = All c.servers }

  abbrev Fits : Choice R U P → View → Type 0
  Fits c v = AreFitServers octets IsFit c.servers v.timers.next

  -- what one server leaves that took a frame
  record Took (s : Server U) (v : View) (t : Server U) (w : View) : Type 0 where
    fit : IsFit t.upstream w.timers.next
    posted : t.posted ≡ []
    timer : v.timers.next ≤ w.timers.next
    now : w.now ≡ v.now
    more : w.more ≡ stands (octets t.upstream)
    behind : (octets t.upstream ≡ option_map behind_frame (octets s.upstream)) ⊎ (octets t.upstream ≡ None)

  -- and all of them, where that is the one of an index
  record TookAt (k : ℕ) (servers : List (Server U)) (v : View) (after : List (Server U)) (w : View) : Type 0 where
    fit : AreFitServers octets IsFit after w.timers.next
    timer : v.timers.next ≤ w.timers.next
    now : w.now ≡ v.now
    more : w.more ≡ stands (seen octets after k)
    behind : (seen octets after k ≡ option_map behind_frame (seen octets servers k)) ⊎ (seen octets after k ≡ None)
    others : (i : ℕ) → (k ≡ i → ⊥) → seen octets after i ≡ None

  takes_one : (s : Server U) (v : View) (request : ℕ) → IsFit s.upstream v.timers.next → IsReady (octets s.upstream) → v.more ≡ false
      → Both (λ (x : List Posted × Server U). (x.0, One x.1)) before (λ x w. Took s v x.1 w) (hears below (more_at place) s v) (hears below (more_at place) (One s) (like before false request v))
  takes_one s v request fit ready more = map_both _ _
      (cut.takes piece before request s.upstream (onto s.posted v) fit ready more)
      (λ u w more' request' h. Each _ _ more' request' (record { fit = h.fit; posted = refl; timer = h.timer; now = h.now; more = h.more; behind = h.octets }))

  took_set : (k : ℕ) (o : List ℕ) (servers : List (Server U)) (s t : Server U) (v w : View) → slice_get servers k ≡ Some s → octets s.upstream ≡ Some o → AreFitServers octets IsFit servers v.timers.next
      → Took s v t w → TookAt k servers v (set servers k t) w
  took_set k o servers s t v w at is f h =
      let was : seen octets servers k ≡ octets s.upstream = seen_at octets servers k s at in
      let there : seen octets (set servers k t) k ≡ octets t.upstream = seen_at octets (set servers k t) k t (set_here servers k s t at) in
      record {
        fit = fit_set octets IsFit servers v.timers.next w.timers.next k s t (λ u. cut.later u v.timers.next w.timers.next h.timer) at h.fit h.posted (λ some none. let z : Some o ≡ None = sym is ∙ none in cc) f;
        timer = h.timer;
        now = h.now;
        more = h.more ∙ ap stands (sym there);
        behind = elim h.behind [ inl e ↦ inl (there ∙ (e ∙ ap (option_map behind_frame) (sym was))) | inr e ↦ inr (there ∙ e) ];
        others = λ i ne. ap (option_and_then (λ (s : Server U). octets s.upstream)) (set_there servers k i t ne) ∙ others_none octets IsFit servers v.timers.next k o f (was ∙ is) i ne;
      }

  takes_at : (k : ℕ) (o : List ℕ) (servers : List (Server U)) (v : View) (request : ℕ) → AreFitServers octets IsFit servers v.timers.next → seen octets servers k ≡ Some o → IsReady (Some o) → v.more ≡ false
      → Both (λ (x : List Posted × List (Server U)). (x.0, All x.1)) before (λ x w. TookAt k servers v x.1 w) (hears_at below k (more_at place) servers v) (hears_at below k (more_at place) (All servers) (like before false request v))
  takes_at k o servers v request f there ready more = rw (longer_get longer piece servers k) (by (slice_get servers k) refl there)
    where
      by : (p : Option (Server U)) → slice_get servers k ≡ p → option_and_then (λ (s : Server U). octets s.upstream) p ≡ Some o
          → Both (λ (x : List Posted × List (Server U)). (x.0, All x.1)) before (λ x w. TookAt k servers v x.1 w) (hears_found below k (more_at place) servers v p)
          (hears_found below k (more_at place) (All servers) (like before false request v) (option_map One p))
      by None at there = absurd (cc)
      by (Some s) at there = map_both _ _
          (takes_one s v request (f.fit k s at).0 (subst IsReady (sym there) ready) more)
          (λ x w more' request' h. rw (longer_set longer piece servers k x.1) (Each _ _ more' request' (took_set k o servers s x.1 v w at there f h)))

  hears_takes : (k : ℕ) (o : List ℕ) (c : Choice R U P) (v : View) (request : ℕ) → Fits c v → seen octets c.servers k ≡ Some o → IsReady (Some o) → v.more ≡ false
      → Both Long before (λ d w. TookAt k c.servers v d.servers w) (hears_one below settings k (more_at place) c v) (hears_one below settings k (more_at place) (Long c) (like before false request v))
  hears_takes k o c v request f there ready more = then_both _ _
      (takes_at k o c.servers v request f there ready more)
      (λ x w more' request' h. weaker (λ d z g. record {
        fit = g.fit;
        timer = le_trans h.timer g.timer;
        now = g.now ∙ h.now;
        more = g.more ∙ (h.more ∙ ap stands (sym (g.near k)));
        behind = elim h.behind [ inl e ↦ inl (g.near k ∙ e) | inr e ↦ inr (g.near k ∙ e) ];
        others = λ i ne. g.near i ∙ h.others i ne;
      })
      (settles_all_alike place below octets longer IsFit cut quiet piece before settings k x.0 (record c { servers = x.1 }) w more' request' h.fit))

  abbrev Rest : (h : Heard) (k count : ℕ) → Choice R U P × View → Option (Choice R U P × View)
  Rest h k count x = hears_some below settings (k + 1) (0 + count - (k + 1)) h x.0 x.1

  -- behind the one that has the place no server hears anything
  rest_silent : (k count : ℕ) (c : Choice R U P) (v : View) → Fits c v → ((i : ℕ) → (k ≡ i → ⊥) → seen octets c.servers i ≡ None) → Rest (more_at place) k count (c, v) ≡ Some (c, v)
  rest_silent k count c v f others =
      silent_some place below octets longer IsFit cut quiet piece before settings (more_at place) (λ o. stands o ≡ false) (λ u v fit. cut.rests u v fit) (k + 1) (0 + count - (k + 1)) c v f refl
      (λ i le. ap stands (others i (λ q. omega (arith, q))))

  rest_unheard : (k count : ℕ) (c : Choice R U P) (v : View) → Fits c v → ((i : ℕ) → (k ≡ i → ⊥) → seen octets c.servers i ≡ None) → Rest (told (Bytes place piece)) k count (c, v) ≡ Some (c, v)
  rest_unheard k count c v f others =
      silent_some place below octets longer IsFit cut quiet piece before settings (told (Bytes place piece)) (λ o. o ≡ None) (λ u v fit. cut.unheard piece u v fit) (k + 1) (0 + count - (k + 1)) c v f refl
      (λ i le. others i (λ q. omega (arith, q)))

  -- the whole is what that one does, and what follows from it
  one_hears : (k : ℕ) (o : List ℕ) (c : Choice R U P) (v : View) → Fits c v → seen octets c.servers k ≡ Some o
      → hears_all below settings (more_at place) c v ≡ option_and_then (Rest (more_at place) k (length c.servers)) (hears_one below settings k (more_at place) c v)
  one_hears k o c v f at =
      up_to_one place below octets longer IsFit cut quiet piece before settings (more_at place) (λ o. stands o ≡ false) (λ u v fit. cut.rests u v fit) 0 (length c.servers) k c v f refl
      (λ i ne. ap stands (others_none octets IsFit c.servers v.timers.next k o f at i ne)) (omega arith) (within octets c.servers k o at)

  one_told : (k : ℕ) (o : List ℕ) (c : Choice R U P) (v : View) → Fits c v → seen octets c.servers k ≡ Some o
      → hears_all below settings (told (Bytes place piece)) c v ≡ option_and_then (Rest (told (Bytes place piece)) k (length c.servers)) (hears_one below settings k (told (Bytes place piece)) c v)
  one_told k o c v f at =
      up_to_one place below octets longer IsFit cut quiet piece before settings (told (Bytes place piece)) (λ o. o ≡ None) (λ u v fit. cut.unheard piece u v fit) 0 (length c.servers) k c v f refl
      (others_none octets IsFit c.servers v.timers.next k o f at) (omega arith) (within octets c.servers k o at)

  pub rests_all : (c : Choice R U P) (v : View) → Fits c v → stands (servers_octets octets c.servers) ≡ false → hears_all below settings (more_at place) c v ≡ Some (c, v)
  rests_all c v f rest =
      silent_some place below octets longer IsFit cut quiet piece before settings (more_at place) (λ o. stands o ≡ false) (λ u v fit. cut.rests u v fit) 0 (length c.servers) c v f refl (λ i le. each i (seen octets c.servers i) refl)
    where
      each : (i : ℕ) (o : Option (List ℕ)) → seen octets c.servers i ≡ o → stands (seen octets c.servers i) ≡ false
      each i None e = ap stands e
      each i (Some o) e = ap stands (sym (whole_seen octets IsFit c.servers i (others_none octets IsFit c.servers v.timers.next i o f e))) ∙ rest

  pub unheard_all : (c : Choice R U P) (v : View) → Fits c v → servers_octets octets c.servers ≡ None → hears_all below settings (told (Bytes place piece)) c v ≡ Some (c, v)
  unheard_all c v f none =
      silent_some place below octets longer IsFit cut quiet piece before settings (told (Bytes place piece)) (λ o. o ≡ None) (λ u v fit. cut.unheard piece u v fit) 0 (length c.servers) c v f refl
      (λ i le. none_seen octets IsFit c.servers none i)

  fit_too : (c : Choice R U P) (v : View) → Fits c v → Fits (Long c) v
  fit_too c v f = fit_long place below octets longer IsFit cut piece c.servers v.timers.next f

  none_too : (servers : List (Server U)) (i : ℕ) → seen octets servers i ≡ None → seen octets (All servers) i ≡ None
  none_too servers i none = none_long place below octets longer IsFit cut piece servers i none

  there_too : (servers : List (Server U)) (k : ℕ) (o : List ℕ) → seen octets servers k ≡ Some o → seen octets (All servers) k ≡ Some (o ++ piece)
  there_too servers k o at = seen_long place below octets longer IsFit cut piece servers k ∙ ap (option_map (λ o. o ++ piece)) at

  took_whole : (k : ℕ) (o : List ℕ) (servers after : List (Server U)) (v w : View) → seen octets servers k ≡ Some o → AreFitServers octets IsFit servers v.timers.next → TookAt k servers v after w
      → Takes (servers_octets octets) (AreFitServers octets IsFit) servers v after w
  took_whole k o servers after v w there f h =
      let was : servers_octets octets servers ≡ seen octets servers k = whole_seen octets IsFit servers k (others_none octets IsFit servers v.timers.next k o f there) in
      let is : servers_octets octets after ≡ seen octets after k = whole_seen octets IsFit after k h.others in
      record {
        fit = h.fit;
        timer = h.timer;
        now = h.now;
        octets = elim h.behind [ inl e ↦ inl (is ∙ (e ∙ ap (option_map behind_frame) (sym was))) | inr e ↦ inr (is ∙ e) ];
        more = h.more ∙ ap stands (sym is);
      }

  pub takes_all : (c : Choice R U P) (v : View) (request : ℕ) → Fits c v → IsReady (servers_octets octets c.servers) → v.more ≡ false
      → Both Long before (λ d w. Takes (servers_octets octets) (AreFitServers octets IsFit) c.servers v d.servers w) (hears_all below settings (more_at place) c v)
      (hears_all below settings (more_at place) (Long c) (like before false request v))
  takes_all c v request f ready more = by (stand_at octets c.servers)
    where
      by : ((i : ℕ) → seen octets c.servers i ≡ None) ⊎ ((k : ℕ) × (o : List ℕ) × (seen octets c.servers k ≡ Some o) × (servers_octets octets c.servers ≡ Some o))
          → Both Long before (λ d w. Takes (servers_octets octets) (AreFitServers octets IsFit) c.servers v d.servers w) (hears_all below settings (more_at place) c v) (hears_all below settings (more_at place) (Long c) (like before false request v))
      by (inl none) =
          let none_here : servers_octets octets c.servers ≡ None = none_of octets c.servers none in
          let none_there : servers_octets octets (All c.servers) ≡ None = none_of octets (All c.servers) (λ i. none_too c.servers i (none i)) in
          rw (rests_all c v f (ap stands none_here), rests_all (Long c) (like before false request v) (fit_too c v f) (ap stands none_there)) (Each _ _ false request (record {
            fit = f;
            timer = le_refl v.timers.next;
            now = refl;
            octets = inr none_here;
            more = more ∙ ap stands (sym none_here);
          }))
      by (inr there) =
          let k : ℕ = there.0 in
          let o : List ℕ = there.1 in
          rw (one_hears k o c v f there.2, one_hears k (o ++ piece) (Long c) (like before false request v) (fit_too c v f) (there_too c.servers k o there.2))
          (then_both _ _
          (hears_takes k o c v request f there.2 (subst IsReady there.3 ready) more)
          (λ d w more' request' h. rw (rest_silent k (length c.servers) d w h.fit h.others, rest_silent k (length (All c.servers)) (Long d) (like before more' request' w) (fit_too d w h.fit) (λ i ne. none_too d.servers i (h.others i ne)))
          (Each _ _ more' request' (took_whole k o c.servers d.servers v w there.2 f h))))

  told_at : (k : ℕ) (o : List ℕ) (servers : List (Server U)) (v : View) → AreFitServers octets IsFit servers v.timers.next → seen octets servers k ≡ Some o → v.more ≡ false
      → hears_at below k (told (Bytes place piece)) servers v ≡ hears_at below k (more_at place) (All servers) v
  told_at k o servers v f there more = rw (longer_get longer piece servers k) (by (slice_get servers k) refl)
    where
      by : (p : Option (Server U)) → slice_get servers k ≡ p → hears_found below k (told (Bytes place piece)) servers v p ≡ hears_found below k (more_at place) (All servers) v (option_map One p)
      by None at = absurd (let z : None ≡ Some o = sym (ap (option_and_then (λ (s : Server U). octets s.upstream)) at) ∙ there in cc)
      by (Some s) at =
          ap (λ a. option_map (λ (x : (List Posted × Server U) × View). ((x.0.0, set servers k x.0.1), x.1)) (option_map (heard below s v) a)) (cut.bytes piece s.upstream (onto s.posted v) (f.fit k s at).0 more)
          ∙ map_same (λ (x : (List Posted × Server U) × View). ((x.0.0, set servers k x.0.1), x.1)) (λ (x : (List Posted × Server U) × View). ((x.0.0, set (All servers) k x.0.1), x.1))
          (λ x. ap (λ (xs : List (Server U)). ((x.0.0, xs), x.1)) (sym (set_closed octets IsFit longer cut.closed piece servers k x.0.1 (others_none octets IsFit servers v.timers.next k o f there))))
          (option_map (heard below s v) (below.step (more_at place) (longer piece s.upstream) (onto s.posted v)))

  told_one : (k : ℕ) (o : List ℕ) (c : Choice R U P) (v : View) → Fits c v → seen octets c.servers k ≡ Some o → v.more ≡ false
      → hears_one below settings k (told (Bytes place piece)) c v ≡ hears_one below settings k (more_at place) (Long c) v
  told_one k o c v f there more = ap (option_and_then (λ (x : (List Posted × List (Server U)) × View). settles_all below settings k x.0.0 (record c { servers = x.0.1 }) x.1)) (told_at k o c.servers v f there more)

  -- what follows is the same
  rest_same : (k n m : ℕ) (o : List ℕ) (c : Choice R U P) (v : View) → Fits c v → seen octets c.servers k ≡ Some o → v.more ≡ false
      → option_and_then (Rest (told (Bytes place piece)) k n) (hears_one below settings k (more_at place) c v) ≡ option_and_then (Rest (more_at place) k m) (hears_one below settings k (more_at place) c v)
  rest_same k n m o c v f there more = by (stands (Some o)) refl
    where
      others : (i : ℕ) → (k ≡ i → ⊥) → seen octets c.servers i ≡ None
      others i ne = others_none octets IsFit c.servers v.timers.next k o f there i ne

      by : (b : Bool) → stands (Some o) ≡ b → option_and_then (Rest (told (Bytes place piece)) k n) (hears_one below settings k (more_at place) c v) ≡ option_and_then (Rest (more_at place) k m) (hears_one below settings k (more_at place) c v)
      by true is = then_same Long before _ _ _ _ _ (λ d w h. rest_unheard k n d w h.fit h.others ∙ sym (rest_silent k m d w h.fit h.others)) (hears_takes k o c v v.request f there is more)
      by false is =
          let here : hears_one below settings k (more_at place) c v ≡ Some (c, v) =
          silent_one place below octets longer IsFit cut quiet piece before settings (more_at place) (λ o. stands o ≡ false) (λ u v fit. cut.rests u v fit) k c v f refl (ap stands there ∙ is) in
          ap (option_and_then (Rest (told (Bytes place piece)) k n)) here
          ∙ (rest_unheard k n c v f others ∙ (sym (rest_silent k m c v f others) ∙ ap (option_and_then (Rest (more_at place) k m)) (sym here)))

  pub bytes_all : (c : Choice R U P) (v : View) → Fits c v → v.more ≡ false → hears_all below settings (told (Bytes place piece)) c v ≡ hears_all below settings (more_at place) (Long c) v
  bytes_all c v f more = by (stand_at octets c.servers)
    where
      by : ((i : ℕ) → seen octets c.servers i ≡ None) ⊎ ((k : ℕ) × (o : List ℕ) × (seen octets c.servers k ≡ Some o) × (servers_octets octets c.servers ≡ Some o))
          → hears_all below settings (told (Bytes place piece)) c v ≡ hears_all below settings (more_at place) (Long c) v
      by (inl none) =
          unheard_all c v f (none_of octets c.servers none)
          ∙ (ap (λ (xs : List (Server U)). Some (record c { servers = xs }, v)) (sym (all_closed octets IsFit longer cut.closed piece c.servers none))
          ∙ sym (rests_all (Long c) v (fit_too c v f) (ap stands (none_of octets (All c.servers) (λ i. none_too c.servers i (none i))))))
      by (inr there) =
          let k : ℕ = there.0 in
          let o : List ℕ = there.1 in
          let too : seen octets (All c.servers) k ≡ Some (o ++ piece) = there_too c.servers k o there.2 in
          one_told k o c v f there.2
          ∙ (ap (option_and_then (Rest (told (Bytes place piece)) k (length c.servers))) (told_one k o c v f there.2 more)
          ∙ (rest_same k (length c.servers) (length (All c.servers)) (o ++ piece) (Long c) v (fit_too c v f) too more ∙ sym (one_hears k (o ++ piece) (Long c) v (fit_too c v f) too)))
