-- One connection changes, with the requests that are there.
use Rattle.std.proofs.Common.{◌≡◌, ℕ, ◌≤◌, ◌⊎◌, inl, inr, List, [], Option, Some, None, refl, sym, ap, subst, ◌∙◌, ap₂}
use Rattle.client_request.specs.Request.{Request}
use Rattle.client_request.specs.declared.board.Posted.{Posted}
use Rattle.client_multi.specs.Links.{Link}
use Rattle.client_multi.specs.declared.multi_stream.job.Job.{Job}
use Rattle.client_multi.specs.declared.multi_stream.job.Stage.{Stage}
use Rattle.client_multi.specs.declared.multi_stream.job.Stage.TheVariants.{Held}
use Rattle.right_trace.specs.Messages.{Octets}
use Rattle.proof_right.specs.machine.Streams.{Phase, Broken, Asker, Multi, moved}
use Rattle.proof_parts.specs.Connections.{timer_of, IsPostedTo}
use Rattle.proof_parts.specs.Octets.{IsLinkAt}
use Rattle.proof_parts.specs.Seats.{IsAway}
use Rattle.proof_multi.specs.Servers.{Desk, names_at, UnderWay, IsListed, IsLoose, IsThere, under, StageFits, AtWaiting, AtResting, AtHeld, HasFailed, IsToHand, JobFits, LinkFits, IsNone, IsSome, IsBroken, AreTables}
use Rattle.proof_multi.proofs.Desks.{StaysThere, there_or_away, away_none, away_so, one_place, link_stays, name_is, names_apart}
use Rattle.right_trace.specs.Trace.{Conf}

-- What a call of the connection at p changes, which posted something: f and g say when each timer is due, before and after.
pub record PlaceChange (p : ℕ) (posts : List Posted) (y z : UnderWay) (d e : Desk) (m n : Multi) (f g : ℕ → Option ℕ) : Type 0 where
  pub todo : z.todo ≡ y.todo
  pub before : y.failed ≡ []
  pub failed : z.failed ≡ posts
  pub jobs : e.jobs ≡ d.jobs
  pub timers : e.timers ≡ d.timers
  pub inner : e.inner ≡ d.inner
  pub waiting : e.waiting ≡ d.waiting
  pub conns : (q : ℕ) → (p ≡ q → ⊥) → n.conns q ≡ m.conns q
  pub aside : (k : ℕ) → IsAway p (m.asks k) → n.asks k ≡ m.asks k
  pub going : (k : ℕ) (a : Asker) → m.asks k ≡ Some a → (phase : Phase) × (n.asks k ≡ Some (moved a phase))
  pub there : (i k : ℕ) (a : Asker) → names_at d i ≡ Some k → m.asks k ≡ Some a → IsThere p a.phase → ((b : Asker) × (n.asks k ≡ Some b) × IsThere p b.phase) ⊎ IsPostedTo i posts
  pub failing : (i k : ℕ) → IsPostedTo i posts → names_at d i ≡ Some k → IsBroken k n
  pub due : (i t : ℕ) → d.timers i ≡ Some t → g i ≡ f i
  pub opening : e.opening ≡ n.opening
  pub calm : e.calm ≤ n.calm

module _ (conf : Conf) (p : ℕ) (posts : List Posted) (y z : UnderWay) (d e : Desk) (m n : Multi) (frames : ℕ → List Octets) (f g : ℕ → Option ℕ) (ticket next : ℕ) (s : AreTables conf y d m f) (c : PlaceChange p posts y z d e m n f g) where
  -- a request is there, or away
  either_way : (k : ℕ) → IsAway p (m.asks k) ⊎ ((a : Asker) × (m.asks k ≡ Some a) × IsThere p a.phase)
  either_way k = by (m.asks k) refl
    where
      by : (o : Option Asker) → m.asks k ≡ o → IsAway p (m.asks k) ⊎ ((a : Asker) × (m.asks k ≡ Some a) × IsThere p a.phase)
      by None e = inl (away_none p (m.asks k) e)
      by (Some a) e = elim (there_or_away p a) [ inl t ↦ inr (a, e, t) | inr away ↦ inl (subst (IsAway p) (sym e) away) ]

  none_posted : (i : ℕ) → IsPostedTo i y.failed → ⊥
  none_posted i h = subst (IsPostedTo i) c.before h

  same_names : names_at e ≡ names_at d
  same_names = ap₂ (λ (jobs : ℕ → Option (Job Request)) (inner : ℕ → Option ℕ). names_at (record d { jobs = jobs; inner = inner })) c.jobs c.inner

  -- whoever is there has a ticket there
  ticket_there : (t : ℕ) (job : Job Request) (a : Asker) → d.jobs t ≡ Some job → StageFits y d f t job.stage a.phase → IsThere p a.phase → (i : ℕ) × (job.stage ≡ Held p (under i)) × (d.inner i ≡ Some t) × (names_at d i ≡ Some job.number)
  ticket_there t job a is (AtWaiting x b l) there = absurd (subst (IsThere p) b there)
  ticket_there t job a is (AtResting i until x b o h) there = absurd (subst (IsThere p) b there)
  ticket_there t job a is (HasFailed q i x b o h) there = absurd (none_posted i h)
  ticket_there t job a is (IsToHand l w h) there = absurd (elim h [ inl b ↦ subst (IsThere p) b there | inr b ↦ subst (IsThere p) b there ])
  ticket_there t job a is (AtHeld q i x b o) there = (i, x ∙ ap (λ q. Held q (under i)) (one_place q p a.phase b there), o, name_is d i t job o is)

  -- it stays there, or is to back off
  goes_on : (k : ℕ) (a : Asker) → m.asks k ≡ Some a → IsThere p a.phase → (b : Asker) × (n.asks k ≡ Some b) × (IsThere p b.phase ⊎ (b.phase ≡ Broken))
  goes_on k a is there =
      let o = s.asked k a is in
      let j = s.jobs o.0 o.1 o.2 in
      let same : Some j.ask ≡ Some a = sym j.is ∙ (ap m.asks o.3 ∙ is) in
      let ask : j.ask ≡ a = cc in
      let x = ticket_there o.0 o.1 a o.2 (subst (λ (a : Asker). StageFits y d f o.0 (o.1).stage a.phase) ask j.stage) there in
      let named : names_at d x.0 ≡ Some k = x.3 ∙ ap Some o.3 in
      elim (c.there x.0 k a named is there) [ inl b ↦ (b.0, b.1, inl b.2) | inr post ↦ (let b = c.failing x.0 k post named in (b.0, b.1, inr b.2)) ]

  asks_stay : (q : ℕ) → (p ≡ q → ⊥) → (k : ℕ) → StaysThere q (m.asks k) (n.asks k)
  asks_stay q ne k = elim (either_way k) [
    | inl away ↦ inl (c.aside k away)
    | inr t ↦ (let b = goes_on k t.0 t.1 t.2 in inr (
      away_so q (m.asks k) t.0 t.1 (λ at. ne (one_place p q (t.0).phase t.2 at)),
      away_so q (n.asks k) b.0 b.1 (λ at. elim b.2 [ inl h ↦ ne (one_place p q (b.0).phase h at) | inr h ↦ subst (IsThere q) h at ]),
    ))
  ]

  apart : (u w : ℕ) (job other : Job Request) → e.jobs u ≡ Some job → e.jobs w ≡ Some other → job.number ≡ other.number → u ≡ w
  apart u w job other a b same = s.apart u w job other (ap (λ (f : ℕ → Option (Job Request)). f u) (sym c.jobs) ∙ a) (ap (λ (f : ℕ → Option (Job Request)). f w) (sym c.jobs) ∙ b) same

  old_job : (u : ℕ) (job : Job Request) → e.jobs u ≡ Some job → d.jobs u ≡ Some job
  old_job u job is = ap (λ (f : ℕ → Option (Job Request)). f u) (sym c.jobs) ∙ is

  new_job : (u : ℕ) (job : Job Request) → d.jobs u ≡ Some job → e.jobs u ≡ Some job
  new_job u job is = ap (λ (f : ℕ → Option (Job Request)). f u) c.jobs ∙ is

  new_timer : (i u : ℕ) → d.timers i ≡ Some u → e.timers i ≡ Some u
  new_timer i u is = ap (λ (f : ℕ → Option ℕ). f i) c.timers ∙ is

  new_inner : (i u : ℕ) → d.inner i ≡ Some u → e.inner i ≡ Some u
  new_inner i u is = ap (λ (f : ℕ → Option ℕ). f i) c.inner ∙ is

  new_waiting : (u : ℕ) → IsListed u d.waiting → IsListed u e.waiting
  new_waiting u l = subst (IsListed u) (sym c.waiting) l

  inner : (i u : ℕ) → e.inner i ≡ Some u → (job : Job Request) × (q : ℕ) × (e.jobs u ≡ Some job) × (job.stage ≡ Held q (under i))
  inner i u is = let o = s.inner i u (ap (λ (f : ℕ → Option ℕ). f i) (sym c.inner) ∙ is) in (o.0, o.1, new_job u o.0 o.2, o.3)

  -- a connection elsewhere
  pub kept_place : (fs : ℕ → List Octets) (q : ℕ) → (p ≡ q → ⊥) → e.links q ≡ d.links q → fs q ≡ frames q → ((l : Link Request) (i : ℕ) → d.links q ≡ Some l → timer_of l.line.stage ≡ Some i → g i ≡ f i) → ticket ≤ next → LinkFits conf d m frames f ticket q → LinkFits conf e n fs g next q
  kept_place fs q ne links same due later (IsNone a b away) = IsNone (links ∙ a) (c.conns q ne ∙ b) (λ k. elim (asks_stay q ne k) [ inl h ↦ subst (IsAway q) (sym h) (away k) | inr h ↦ h.1 ])
  kept_place fs q ne links same due later (IsSome l x a link) =
      IsSome l x (links ∙ a) (subst (λ o. IsLinkAt conf q (names_at e) l n x o g next) (sym same)
      (link_stays conf q l (names_at d) (names_at e) m n x (frames q) f g ticket next link (c.conns q ne) (asks_stay q ne)
      (λ i j b nm is there. ap (λ (f : ℕ → Option ℕ). f i) same_names ∙ nm) (names_apart e apart inner) (λ i own. due l i a own) later))

  stage_stays : (t : ℕ) (at : Stage) (phase : Phase) → StageFits y d f t at phase → StageFits z e g t at phase
  stage_stays t at phase (AtWaiting x b l) = AtWaiting x b (new_waiting t l)
  stage_stays t at phase (AtResting i until x b o h) = AtResting i until x b (new_timer i t o) (c.due i t o ∙ h)
  stage_stays t at phase (AtHeld q i x b o) = AtHeld q i x b (new_inner i t o)
  stage_stays t at phase (HasFailed q i x b o h) = absurd (none_posted i h)
  stage_stays t at phase (IsToHand l w h) = IsToHand (subst (λ (xs : List (ℕ × Phase)). IsLoose t phase xs) (sym c.todo) l) w h

  job_fits : (t : ℕ) (job : Job Request) → d.jobs t ≡ Some job → JobFits conf z e n g t job
  job_fits t job is = elim (either_way job.number) [
    | inl away ↦ record {
      ask = j.ask;
      is = c.aside job.number away ∙ j.is;
      request = j.request;
      octets = j.octets;
      end = new_timer job.end t j.end;
      over = c.due job.end t j.end ∙ j.over;
      stage = stage_stays t job.stage j.ask.phase j.stage;
    }
    | inr h ↦ at_place (let same : Some h.0 ≡ Some j.ask = sym h.1 ∙ j.is in let ask : h.0 ≡ j.ask = cc in subst (λ (a : Asker). IsThere p a.phase) ask h.2)
  ]
    where
      j : JobFits conf y d m f t job
      j = s.jobs t job is

      at_place : IsThere p j.ask.phase → JobFits conf z e n g t job
      at_place there =
          let x = ticket_there t job j.ask is j.stage there in
          let go = c.going job.number j.ask j.is in
          record {
            ask = moved j.ask go.0;
            is = go.1;
            request = j.request;
            octets = j.octets;
            end = new_timer job.end t j.end;
            over = c.due job.end t j.end ∙ j.over;
            stage = elim (c.there x.0 job.number j.ask x.3 j.is there) [
              | inl b ↦ AtHeld p x.0 x.1 (subst (IsThere p) (same_as b.0 go.0 go.1 b.1) b.2) (new_inner x.0 t x.2)
              | inr post ↦ (let b = c.failing x.0 job.number post x.3 in HasFailed p x.0 x.1 (sym (same_as b.0 go.0 go.1 b.1) ∙ b.2) (new_inner x.0 t x.2) (subst (IsPostedTo x.0) (sym c.failed) post))
            ];
          }
        where
          same_as : (b : Asker) (ph : Phase) → n.asks job.number ≡ Some (moved j.ask ph) → n.asks job.number ≡ Some b → b.phase ≡ ph
          same_as b ph is e = let q : Some (moved j.ask ph) ≡ Some b = sym is ∙ e in let r : moved j.ask ph ≡ b = cc in sym (ap (λ (a : Asker). a.phase) r)

  -- the tables again
  pub placed : AreTables conf z e n g
  placed = record {
    jobs = λ t job is. job_fits t job (old_job t job is);
    asked = λ k a is. asked k a is;
    apart = apart;
    timers = λ i t is. (let o = s.timers i t (ap (λ (f : ℕ → Option ℕ). f i) (sym c.timers) ∙ is) in (o.0, new_job t o.0 o.1, o.2));
    inner = inner;
    waiting = λ t is. (let o = s.waiting t (subst (IsListed t) c.waiting is) in (o.0, o.1, new_job t o.0 o.2, o.3, c.aside (o.0).number (away_so p (m.asks (o.0).number) o.1 o.4 (λ h. subst (IsThere p) o.5 h)) ∙ o.4, o.5));
    todo = λ t phase is. (let o = s.todo t phase (subst (λ (xs : List (ℕ × Phase)). IsLoose t phase xs) c.todo is) in
        (o.0, o.1, new_job t o.0 o.2, o.3, c.aside (o.0).number (away_so p (m.asks (o.0).number) o.1 o.4 (λ h. elim o.6 [ inl b ↦ subst (IsThere p) (o.5 ∙ b) h | inr b ↦ subst (IsThere p) (o.5 ∙ b) h ])) ∙ o.4, o.5, o.6));
    failing = λ i k post named. c.failing i k (subst (IsPostedTo i) c.failed post) (ap (λ (f : ℕ → Option ℕ). f i) (sym same_names) ∙ named);
    opening = c.opening;
    calm = c.calm;
  }
    where
      asked : (k : ℕ) (a : Asker) → n.asks k ≡ Some a → (u : ℕ) × (job : Job Request) × (e.jobs u ≡ Some job) × (job.number ≡ k)
      asked k a is = elim (either_way k) [
        | inl away ↦ (let o = s.asked k a (sym (c.aside k away) ∙ is) in (o.0, o.1, new_job o.0 o.1 o.2, o.3))
        | inr h ↦ (let o = s.asked k h.0 h.1 in (o.0, o.1, new_job o.0 o.1 o.2, o.3))
      ]
