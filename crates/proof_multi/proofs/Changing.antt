-- One request changes, beside others that stay as they are.
use Rattle.std.proofs.Common.{◌≡◌, ℕ, ◌≤◌, ◌⊎◌, inl, inr, List, Option, Some, refl, sym, ap, subst, ◌∙◌}
use Rattle.client_request.specs.Request.{Request}
use Rattle.client_multi.specs.Links.{Link}
use Rattle.client_multi.specs.declared.multi_stream.job.Job.{Job}
use Rattle.client_multi.specs.declared.multi_stream.job.Stage.{Stage}
use Rattle.client_multi.specs.declared.multi_stream.job.Stage.TheVariants.{Waiting, Resting, Held}
use Rattle.right_trace.specs.Messages.{Octets}
use Rattle.proof_right.specs.machine.Streams.{Phase, Free, Expecting, Broken, Asker, Multi}
use Rattle.proof_parts.specs.Connections.{timer_of, IsPostedTo}
use Rattle.proof_parts.specs.Octets.{IsLinkAt}
use Rattle.proof_parts.specs.Seats.{IsAway}
use Rattle.proof_parts.proofs.Keys.{each_number}
use Rattle.proof_multi.specs.Servers.{Desk, names_at, UnderWay, IsListed, IsLoose, IsThere, under, StageFits, AtWaiting, AtResting, AtHeld, HasFailed, IsToHand, JobFits, LinkFits, IsNone, IsSome, IsBroken, AreTables}
use Rattle.proof_multi.proofs.Desks.{StaysThere, not_both, link_stays, name_of, name_is, names_apart}
use Rattle.right_trace.specs.Trace.{Conf}

-- What a call changes of ticket t alone, whose request has number k: f and g say when each timer is due, before and after.
pub record Change (conf : Conf) (t k : ℕ) (y z : UnderWay) (d e : Desk) (m n : Multi) (f g : ℕ → Option ℕ) : Type 0 where
  -- others
  pub jobs : (u : ℕ) → (t ≡ u → ⊥) → e.jobs u ≡ d.jobs u
  pub timers : (i u : ℕ) → (t ≡ u → ⊥) → d.timers i ≡ Some u → (e.timers i ≡ Some u) × (g i ≡ f i)
  pub timers_back : (i u : ℕ) → (t ≡ u → ⊥) → e.timers i ≡ Some u → d.timers i ≡ Some u
  pub inner : (i u : ℕ) → (t ≡ u → ⊥) → d.inner i ≡ Some u → e.inner i ≡ Some u
  pub inner_back : (i u : ℕ) → (t ≡ u → ⊥) → e.inner i ≡ Some u → d.inner i ≡ Some u
  pub waiting : (u : ℕ) → (t ≡ u → ⊥) → IsListed u d.waiting → IsListed u e.waiting
  pub waiting_back : (u : ℕ) → (t ≡ u → ⊥) → IsListed u e.waiting → IsListed u d.waiting
  pub asks : (j : ℕ) → (k ≡ j → ⊥) → n.asks j ≡ m.asks j
  pub todo : (u : ℕ) (phase : Phase) → (t ≡ u → ⊥) → IsLoose u phase y.todo → IsLoose u phase z.todo
  pub todo_back : (u : ℕ) (phase : Phase) → (t ≡ u → ⊥) → IsLoose u phase z.todo → IsLoose u phase y.todo
  pub failed : (i u : ℕ) → (t ≡ u → ⊥) → d.inner i ≡ Some u → IsPostedTo i y.failed → IsPostedTo i z.failed
  -- the request itself
  pub own : (u : ℕ) (job : Job Request) → d.jobs u ≡ Some job → job.number ≡ k → t ≡ u
  pub number : (job : Job Request) → d.jobs t ≡ Some job → job.number ≡ k
  pub fits : (job : Job Request) → e.jobs t ≡ Some job → JobFits conf z e n g t job × (job.number ≡ k)
  pub asked : (a : Asker) → n.asks k ≡ Some a → (job : Job Request) × (e.jobs t ≡ Some job)
  pub own_timers : (i : ℕ) → e.timers i ≡ Some t → (job : Job Request) × (e.jobs t ≡ Some job) × ((job.end ≡ i) ⊎ (job.stage ≡ Resting i))
  pub own_inner : (i : ℕ) → e.inner i ≡ Some t → (job : Job Request) × (p : ℕ) × (e.jobs t ≡ Some job) × (job.stage ≡ Held p (under i))
  pub own_waiting : IsListed t e.waiting → (job : Job Request) × (a : Asker) × (e.jobs t ≡ Some job) × (job.stage ≡ Waiting) × (n.asks job.number ≡ Some a) × (a.phase ≡ Expecting)
  pub own_todo : (phase : Phase) → IsLoose t phase z.todo → (job : Job Request) × (a : Asker) × (e.jobs t ≡ Some job) × (job.stage ≡ Waiting) × (n.asks job.number ≡ Some a) × (a.phase ≡ phase) × ((phase ≡ Free) ⊎ (phase ≡ Broken))
  pub failing : (i j : ℕ) → IsPostedTo i z.failed → names_at e i ≡ Some j → IsBroken j n
  pub opening : e.opening ≡ n.opening
  pub calm : e.calm ≤ n.calm

module _ (conf : Conf) (t k : ℕ) (y z : UnderWay) (d e : Desk) (m n : Multi) (frames : ℕ → List Octets) (f g : ℕ → Option ℕ) (ticket next : ℕ) (s : AreTables conf y d m f) (c : Change conf t k y z d e m n f g) where
  -- it is that ticket, or another
  same_or : (u : ℕ) → (t ≡ u) ⊎ (t ≡ u → ⊥)
  same_or u = each_number (λ u. (t ≡ u) ⊎ (t ≡ u → ⊥)) t (inl refl) (λ j ne. inr ne) u

  old_job : (u : ℕ) (job : Job Request) → (t ≡ u → ⊥) → e.jobs u ≡ Some job → d.jobs u ≡ Some job
  old_job u job ne is = sym (c.jobs u ne) ∙ is

  new_job : (u : ℕ) (job : Job Request) → (t ≡ u → ⊥) → d.jobs u ≡ Some job → e.jobs u ≡ Some job
  new_job u job ne is = c.jobs u ne ∙ is

  other_number : (u : ℕ) (job : Job Request) → (t ≡ u → ⊥) → d.jobs u ≡ Some job → k ≡ job.number → ⊥
  other_number u job ne is same = ne (c.own u job is (sym same))

  stage : (u : ℕ) (at : Stage) (phase : Phase) → (t ≡ u → ⊥) → StageFits y d f u at phase → StageFits z e g u at phase
  stage u at phase ne (AtWaiting a b l) = AtWaiting a b (c.waiting u ne l)
  stage u at phase ne (AtResting i until a b o h) = (let x = c.timers i u ne o in AtResting i until a b x.0 (x.1 ∙ h))
  stage u at phase ne (AtHeld p i a b o) = AtHeld p i a b (c.inner i u ne o)
  stage u at phase ne (HasFailed p i a b o h) = HasFailed p i a b (c.inner i u ne o) (c.failed i u ne o h)
  stage u at phase ne (IsToHand l w h) = IsToHand (c.todo u phase ne l) w h

  other_fits : (u : ℕ) (job : Job Request) → (t ≡ u → ⊥) → d.jobs u ≡ Some job → JobFits conf z e n g u job
  other_fits u job ne is = let j = s.jobs u job is in record {
    ask = j.ask;
    is = c.asks job.number (other_number u job ne is) ∙ j.is;
    request = j.request;
    octets = j.octets;
    end = (c.timers job.end u ne j.end).0;
    over = (c.timers job.end u ne j.end).1 ∙ j.over;
    stage = stage u job.stage j.ask.phase ne j.stage;
  }

  apart : (u w : ℕ) (job other : Job Request) → e.jobs u ≡ Some job → e.jobs w ≡ Some other → job.number ≡ other.number → u ≡ w
  apart u w job other a b same = elim (same_or u) [
    | inl tu ↦ elim (same_or w) [
      | inl tw ↦ sym tu ∙ tw
      | inr nw ↦ (let fits = c.fits job (ap e.jobs tu ∙ a) in sym tu ∙ c.own w other (old_job w other nw b) (sym same ∙ fits.1))
    ]
    | inr nu ↦ elim (same_or w) [
      | inl tw ↦ (let fits = c.fits other (ap e.jobs tw ∙ b) in sym (c.own u job (old_job u job nu a) (same ∙ fits.1)) ∙ tw)
      | inr nw ↦ s.apart u w job other (old_job u job nu a) (old_job w other nw b) same
    ]
  ]

  inner : (i u : ℕ) → e.inner i ≡ Some u → (job : Job Request) × (p : ℕ) × (e.jobs u ≡ Some job) × (job.stage ≡ Held p (under i))
  inner i u is = elim (same_or u) [
    | inl tu ↦ (let o = c.own_inner i (is ∙ ap Some (sym tu)) in (o.0, o.1, ap e.jobs (sym tu) ∙ o.2, o.3))
    | inr ne ↦ (let o = s.inner i u (c.inner_back i u ne is) in (o.0, o.1, new_job u o.0 ne o.2, o.3))
  ]

  pub apart_now : (i j l : ℕ) → names_at e i ≡ Some l → names_at e j ≡ Some l → i ≡ j
  apart_now = names_apart e apart inner

  -- the name of another request stays
  pub name_stays : (i j : ℕ) → (k ≡ j → ⊥) → names_at d i ≡ Some j → names_at e i ≡ Some j
  name_stays i j ne is =
      let o = name_of d i j is in
      let other : t ≡ o.0 → ⊥ = λ tu. ne (sym (c.number o.1 (ap d.jobs tu ∙ o.3)) ∙ o.4) in
      name_is e i o.0 o.1 (c.inner i o.0 other o.2) (new_job o.0 o.1 other o.3) ∙ ap Some o.4

  asks_stay : (p : ℕ) → IsAway p (m.asks k) → IsAway p (n.asks k) → (j : ℕ) → StaysThere p (m.asks j) (n.asks j)
  asks_stay p before after j = each_number (λ j. StaysThere p (m.asks j) (n.asks j)) k (inr (before, after)) (λ j ne. inl (c.asks j ne)) j

  number_there : (p : ℕ) (j : ℕ) (a : Asker) → IsAway p (m.asks k) → m.asks j ≡ Some a → IsThere p a.phase → k ≡ j → ⊥
  number_there p j a before is there same = not_both p (m.asks k) a (ap m.asks same ∙ is) before there

  -- a connection at which the request is not
  pub kept_link : (fs : ℕ → List Octets) (p : ℕ) → e.links p ≡ d.links p → n.conns p ≡ m.conns p → fs p ≡ frames p → IsAway p (m.asks k) → IsAway p (n.asks k)
      → ((l : Link Request) (i : ℕ) → d.links p ≡ Some l → timer_of l.line.stage ≡ Some i → g i ≡ f i) → ticket ≤ next → LinkFits conf d m frames f ticket p → LinkFits conf e n fs g next p
  kept_link fs p links conns same before after due later (IsNone a b away) = IsNone (links ∙ a) (conns ∙ b) (λ j. away_still j)
    where
      away_still : (j : ℕ) → IsAway p (n.asks j)
      away_still j = elim (asks_stay p before after j) [ inl q ↦ subst (IsAway p) (sym q) (away j) | inr q ↦ q.1 ]
  kept_link fs p links conns same before after due later (IsSome l x a link) =
      IsSome l x (links ∙ a) (subst (λ o. IsLinkAt conf p (names_at e) l n x o g next) (sym same)
      (link_stays conf p l (names_at d) (names_at e) m n x (frames p) f g ticket next link conns (asks_stay p before after)
      (λ i j b nm is there. name_stays i j (number_there p j b before is there) nm) apart_now (λ i own. due l i a own) later))

  -- the tables again
  pub changed : AreTables conf z e n g
  changed = record {
    jobs = λ u job is. elim (same_or u) [
      | inl tu ↦ subst (λ u. JobFits conf z e n g u job) tu (c.fits job (ap e.jobs tu ∙ is)).0
      | inr ne ↦ other_fits u job ne (old_job u job ne is)
    ];
    asked = λ j a is. asked j a is;
    apart = apart;
    timers = λ i u is. elim (same_or u) [
      | inl tu ↦ (let o = c.own_timers i (is ∙ ap Some (sym tu)) in (o.0, ap e.jobs (sym tu) ∙ o.1, o.2))
      | inr ne ↦ (let o = s.timers i u (c.timers_back i u ne is) in (o.0, new_job u o.0 ne o.1, o.2))
    ];
    inner = inner;
    waiting = λ u is. elim (same_or u) [
      | inl tu ↦ (let o = c.own_waiting (subst (λ u. IsListed u e.waiting) (sym tu) is) in (o.0, o.1, ap e.jobs (sym tu) ∙ o.2, o.3, o.4, o.5))
      | inr ne ↦ (let o = s.waiting u (c.waiting_back u ne is) in (o.0, o.1, new_job u o.0 ne o.2, o.3, c.asks (o.0).number (other_number u o.0 ne o.2) ∙ o.4, o.5))
    ];
    todo = λ u phase is. elim (same_or u) [
      | inl tu ↦ (let o = c.own_todo phase (subst (λ u. IsLoose u phase z.todo) (sym tu) is) in (o.0, o.1, ap e.jobs (sym tu) ∙ o.2, o.3, o.4, o.5, o.6))
      | inr ne ↦ (let o = s.todo u phase (c.todo_back u phase ne is) in (o.0, o.1, new_job u o.0 ne o.2, o.3, c.asks (o.0).number (other_number u o.0 ne o.2) ∙ o.4, o.5, o.6))
    ];
    failing = c.failing;
    opening = c.opening;
    calm = c.calm;
  }
    where
      asked : (j : ℕ) (a : Asker) → n.asks j ≡ Some a → (u : ℕ) × (job : Job Request) × (e.jobs u ≡ Some job) × (job.number ≡ j)
      asked j a is = elim (each_number (λ j. (k ≡ j) ⊎ (k ≡ j → ⊥)) k (inl refl) (λ j ne. inr ne) j) [
        | inl kj ↦ (let o = c.asked a (ap n.asks kj ∙ is) in (t, o.0, o.1, (c.fits o.0 o.1).1 ∙ kj))
        | inr ne ↦ (let o = s.asked j a (sym (c.asks j ne) ∙ is) in (o.0, o.1, new_job o.0 o.1 (λ tu. ne (sym (c.number o.1 (ap d.jobs tu ∙ o.2)) ∙ o.3)) o.2, o.3))
      ]
