-- A place opens, or does not: those who waited for it are to be handed on, or to back off.
use Rattle.std.proofs.Common.{◌≡◌, ℕ, ◌≤◌, ◌⊎◌, inl, inr, List, [], ◌∷◌, map, Option, Some, None, refl, sym, ap, ap₂, subst, ◌∙◌, le_refl}
use Rattle.client_request.specs.Request.{Request}
use Rattle.client_multi.specs.declared.multi_stream.job.Job.{Job}
use Rattle.client_multi.specs.declared.multi_stream.job.Stage.{Stage}
use Rattle.client_multi.specs.declared.multi_stream.job.Stage.TheVariants.{Held}
use Rattle.right_trace.specs.Messages.{Octets}
use Rattle.proof_right.specs.machine.Streams.{Phase, Free, Expecting, Lined, Holding, Broken, BackingOff, Asker, Multi, moved, every, expected}
use Rattle.proof_parts.specs.Seats.{IsAway}
use Rattle.proof_multi.specs.Servers.{Desk, names_at, UnderWay, nothing_under_way, IsListed, IsLoose, IsThere, under, StageFits, AtWaiting, AtResting, AtHeld, HasFailed, IsToHand, LinkFits, IsNone, IsSome, AreTables}
use Rattle.proof_multi.proofs.Desks.{StaysThere, away_so, link_stays, names_apart}
use Rattle.right_trace.specs.Trace.{Conf}

-- those who are to be handed on, all in one phase
abbrev pub all_as : Phase → List ℕ → List (ℕ × Phase)
all_as to xs = map (λ t. (t, to)) xs

pub loose_as : (t : ℕ) (to : Phase) (xs : List ℕ) → IsListed t xs → IsLoose t to (all_as to xs)
loose_as t to [] l = l
loose_as t to (x ∷ xs) (inl e) = inl (e, refl)
loose_as t to (x ∷ xs) (inr l) = inr (loose_as t to xs l)

pub as_loose : (t : ℕ) (phase to : Phase) (xs : List ℕ) → IsLoose t phase (all_as to xs) → IsListed t xs × (to ≡ phase)
as_loose t phase to [] l = absurd l
as_loose t phase to (x ∷ xs) (inl e) = (inl e.0, e.1)
as_loose t phase to (x ∷ xs) (inr l) = let o = as_loose t phase to xs l in (inr o.0, o.1)

there_still : (to : Phase) (p : ℕ) (phase : Phase) → IsThere p phase → IsThere p (expected to phase)
there_still to p Free t = absurd t
there_still to p Expecting t = absurd t
there_still to p Broken t = absurd t
there_still to p (BackingOff until) t = absurd t
there_still to p (Lined q) t = t
there_still to p (Holding q id) t = t

-- a phase that is at no place
abbrev pub IsNowhere : Phase → Type 0
IsNowhere phase = (q : ℕ) → IsThere q phase → ⊥

module _ (c : Conf) (to : Phase) (loose : (to ≡ Free) ⊎ (to ≡ Broken)) where
  nowhere : IsNowhere to
  nowhere q t = elim loose [ inl e ↦ subst (IsThere q) e t | inr e ↦ subst (IsThere q) e t ]

  stays_so : (q : ℕ) (o : Option Asker) → StaysThere q o (every (expected to) o)
  stays_so q None = inl refl
  stays_so q (Some a) = by a.phase refl
    where
      both : (ph : Phase) → a.phase ≡ ph → IsNowhere ph → IsNowhere (expected to ph) → StaysThere q (Some a) (Some (moved a (expected to a.phase)))
      both ph e one other = inr (away_so q (Some a) a refl (λ t. one q (subst (IsThere q) e t)), away_so q (Some (moved a (expected to a.phase))) (moved a (expected to a.phase)) refl (λ t. other q (subst (λ ph. IsThere q (expected to ph)) e t)))

      by : (ph : Phase) → a.phase ≡ ph → StaysThere q (Some a) (Some (moved a (expected to a.phase)))
      by Free e = both Free e (λ q t. t) (λ q t. t)
      by Expecting e = both Expecting e (λ q t. t) nowhere
      by Broken e = both Broken e (λ q t. t) (λ q t. t)
      by (BackingOff until) e = both (BackingOff until) e (λ q t. t) (λ q t. t)
      by (Lined r) e = inl (ap (λ ph. Some (moved a (expected to ph))) e ∙ ap (λ ph. Some (moved a ph)) (sym e))
      by (Holding r id) e = inl (ap (λ ph. Some (moved a (expected to ph))) e ∙ ap (λ ph. Some (moved a ph)) (sym e))

  pub away_still : (q : ℕ) (o : Option Asker) → IsAway q o → IsAway q (every (expected to) o)
  away_still q o away = elim (stays_so q o) [ inl e ↦ subst (IsAway q) (sym e) away | inr h ↦ h.1 ]

  module _ (d e : Desk) (m n : Multi) (frames : ℕ → List Octets) (f g : ℕ → Option ℕ) (ticket : ℕ) (s : AreTables c nothing_under_way d m f)
      (jobs : e.jobs ≡ d.jobs) (timers : e.timers ≡ d.timers) (inner : e.inner ≡ d.inner) (waiting : e.waiting ≡ []) (asks : (k : ℕ) → n.asks k ≡ every (expected to) (m.asks k)) (same_dues : (i : ℕ) → g i ≡ f i)
      (opening : e.opening ≡ n.opening) (calm : e.calm ≤ n.calm) where
    abbrev z : UnderWay
    z = record { todo = all_as to d.waiting; failed = [] }

    old_job : (u : ℕ) (job : Job Request) → e.jobs u ≡ Some job → d.jobs u ≡ Some job
    old_job u job is = ap (λ (f : ℕ → Option (Job Request)). f u) (sym jobs) ∙ is

    new_job : (u : ℕ) (job : Job Request) → d.jobs u ≡ Some job → e.jobs u ≡ Some job
    new_job u job is = ap (λ (f : ℕ → Option (Job Request)). f u) jobs ∙ is

    new_timer : (i u : ℕ) → d.timers i ≡ Some u → e.timers i ≡ Some u
    new_timer i u is = ap (λ (f : ℕ → Option ℕ). f i) timers ∙ is

    new_inner : (i u : ℕ) → d.inner i ≡ Some u → e.inner i ≡ Some u
    new_inner i u is = ap (λ (f : ℕ → Option ℕ). f i) inner ∙ is

    apart : (u w : ℕ) (job other : Job Request) → e.jobs u ≡ Some job → e.jobs w ≡ Some other → job.number ≡ other.number → u ≡ w
    apart u w job other a b same = s.apart u w job other (old_job u job a) (old_job w other b) same

    has_inner : (i u : ℕ) → e.inner i ≡ Some u → (job : Job Request) × (q : ℕ) × (e.jobs u ≡ Some job) × (job.stage ≡ Held q (under i))
    has_inner i u is = let o = s.inner i u (ap (λ (f : ℕ → Option ℕ). f i) (sym inner) ∙ is) in (o.0, o.1, new_job u o.0 o.2, o.3)

    same_names : names_at e ≡ names_at d
    same_names = ap₂ (λ (jobs : ℕ → Option (Job Request)) (inner : ℕ → Option ℕ). names_at (record d { jobs = jobs; inner = inner })) jobs inner

    asks_stay : (q k : ℕ) → StaysThere q (m.asks k) (n.asks k)
    asks_stay q k = subst (StaysThere q (m.asks k)) (sym (asks k)) (stays_so q (m.asks k))

    pub kept_open : (q : ℕ) → e.links q ≡ d.links q → n.conns q ≡ m.conns q → LinkFits c d m frames f ticket q → LinkFits c e n frames g ticket q
    kept_open q links conns (IsNone a b away) = IsNone (links ∙ a) (conns ∙ b) (λ k. subst (IsAway q) (sym (asks k)) (away_still q (m.asks k) (away k)))
    kept_open q links conns (IsSome l x a link) = IsSome l x (links ∙ a)
        (link_stays c q l (names_at d) (names_at e) m n x (frames q) f g ticket ticket link conns (asks_stay q) (λ i j b nm is there. ap (λ (f : ℕ → Option ℕ). f i) same_names ∙ nm) (names_apart e apart has_inner) (λ i own. same_dues i) (le_refl ticket))

    stage : (t : ℕ) (at : Stage) (phase : Phase) → StageFits nothing_under_way d f t at phase → StageFits z e g t at (expected to phase)
    stage t at phase (AtWaiting x b l) = subst (StageFits z e g t at) (sym (ap (expected to) b)) (IsToHand (loose_as t to d.waiting l) x loose)
    stage t at phase (AtResting i until x b o h) = AtResting i until x (ap (expected to) b) (new_timer i t o) (same_dues i ∙ h)
    stage t at phase (AtHeld p i x b o) = AtHeld p i x (there_still to p phase b) (new_inner i t o)
    stage t at phase (HasFailed p i x b o h) = absurd h
    stage t at phase (IsToHand l w h) = absurd l

    pub opens_so : AreTables c z e n g
    opens_so = record {
      jobs = λ t job is. (let j = s.jobs t job (old_job t job is) in record {
        ask = moved j.ask (expected to j.ask.phase);
        is = asks job.number ∙ ap (every (expected to)) j.is;
        request = j.request;
        octets = j.octets;
        end = new_timer job.end t j.end;
        over = same_dues job.end ∙ j.over;
        stage = stage t job.stage j.ask.phase j.stage;
      });
      asked = λ k a is. by k a (m.asks k) refl (sym (asks k) ∙ is);
      apart = apart;
      timers = λ i t is. (let o = s.timers i t (ap (λ (f : ℕ → Option ℕ). f i) (sym timers) ∙ is) in (o.0, new_job t o.0 o.1, o.2));
      inner = has_inner;
      waiting = λ t l. absurd (subst (IsListed t) waiting l);
      todo = λ t phase l. (let x = as_loose t phase to d.waiting l in let o = s.waiting t x.0 in
          (o.0, moved o.1 (expected to (o.1).phase), new_job t o.0 o.2, o.3, asks (o.0).number ∙ ap (every (expected to)) o.4, ap (expected to) o.5 ∙ x.1, elim loose [ inl b ↦ inl (sym x.1 ∙ b) | inr b ↦ inr (sym x.1 ∙ b) ]));
      failing = λ i k h named. absurd h;
      opening = opening;
      calm = calm;
    }
      where
        by : (k : ℕ) (a : Asker) (o : Option Asker) → m.asks k ≡ o → every (expected to) (m.asks k) ≡ Some a → (u : ℕ) × (job : Job Request) × (e.jobs u ≡ Some job) × (job.number ≡ k)
        by k a None is h = absurd (let z = sym (ap (every (expected to)) is) ∙ h in cc)
        by k a (Some b) is h = (let o = s.asked k b is in (o.0, o.1, new_job o.0 o.1 o.2, o.3))
