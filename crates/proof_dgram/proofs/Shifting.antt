-- A job leaves its place or the queue, or comes to a place or into the queue.
use Rattle.std.proofs.Common.{◌≡◌, ℕ, suc, ◌+◌, ◌-◌, ◌<◌, inl, inr, List, [], Option, Some, None, refl, sym, ap, subst, ◌∙◌, arith}
use Rattle.std.proofs.lemmas.Bool.{cases_eq}
use Rattle.client_request.specs.Request.{Request}
use Rattle.client_dgram.specs.declared.job.Job.{Job}
use Rattle.client_dgram.specs.declared.job.Stage.TheVariants as at
use Rattle.proof_right.specs.machine.Dgrams.{Queued, Tryer, Dgrams, forget}
use Rattle.right_trace.specs.Updates.{with_at}
use Rattle.proof_dgram.specs.Slots.{IsIn, place_in, timer_in, Slots, IsJobOf, StageFits, AtQueue, AtOpening, AtSent, AreAlike}
use Rattle.proof_dgram.proofs.Changing.{Around, falls_out, comes_in}
use Rattle.proof_parts.proofs.Keys.{with_here, with_there, was_there, is_or_was}
use Rattle.right_trace.specs.Trace.{Conf}
use Rattle.right_trace.specs.Time.{max_places}

-- the tables without a job at a place, and without one that is queued
abbrev pub off_place : (t p : ℕ) → (ℕ → Option ℕ) → Slots → Slots
off_place t p timers s = record { jobs = with_at t None s.jobs; places = with_at p None s.places; timers = timers; queue = s.queue; used = s.used; live = s.live - 1 }

abbrev pub off_queue : (t : ℕ) → List ℕ → Slots → Slots
off_queue t q s = record { jobs = with_at t None s.jobs; places = s.places; timers = s.timers; queue = q; used = s.used; live = s.live }

-- with a job at a place, and with one more in the queue
abbrev pub at_place : (t p : ℕ) → Job Request → (ℕ → Option ℕ) → Slots → Slots
at_place t p j timers s = record { jobs = with_at t (Some j) s.jobs; places = with_at p (Some t) s.places; timers = timers; queue = s.queue; used = s.used; live = suc s.live }

abbrev pub at_queue : (t : ℕ) → Job Request → List ℕ → Slots → Slots
at_queue t j q s = record { jobs = with_at t (Some j) s.jobs; places = s.places; timers = s.timers; queue = q; used = s.used; live = s.live }

-- the machine's places and requests, likewise
abbrev pub gone : (p k : ℕ) → Dgrams → Dgrams
gone p k d = record { held = with_at k None d.held; at = with_at p None d.at; used = d.used - 1 }

abbrev pub come : (p k : ℕ) → Tryer → Dgrams → Dgrams
come p k a d = record { held = with_at k (Some a) d.held; at = with_at p (Some k) d.at; used = suc d.used }

abbrev pub waits : (k : ℕ) → Tryer → Dgrams → Dgrams
waits k a d = record { held = with_at k (Some a) d.held; at = d.at; used = d.used }

less : (a b n : ℕ) → a ≡ b + n → 0 < b → a ≡ (b - 1) + suc n
less a b n e lt = omega arith

more : (a b n : ℕ) → a ≡ b + suc n → a ≡ suc b + n
more a b n e = omega arith

module _ (c : Conf) (n : ℕ) (s : Slots) (d : Dgrams) (dues : ℕ → Option ℕ) (f : AreAlike c n s d dues) where
  one_job : (t : ℕ) (j i : Job Request) → s.jobs t ≡ Some j → s.jobs t ≡ Some i → j ≡ i
  one_job t j i a b = (let z : Some j ≡ Some i = sym a ∙ b in cc)

  -- where the job of a ticket is
  its_place : (t p q : ℕ) (j : Job Request) → s.jobs t ≡ Some j → place_in j.stage ≡ Some p → s.places q ≡ Some t → p ≡ q
  its_place t p q j is at e = (let g = f.places q t e in let z : Some p ≡ Some q = sym at ∙ (ap (λ (j : Job Request). place_in j.stage) (one_job t j g.0 is g.1) ∙ g.2) in cc)

  not_queued : (t p : ℕ) (j : Job Request) → s.jobs t ≡ Some j → place_in j.stage ≡ Some p → IsIn t s.queue → ⊥
  not_queued t p j is at i = (let g = f.queue t i in let z : Some p ≡ None = sym at ∙ (ap (λ (j : Job Request). place_in j.stage) (one_job t j g.0 is g.1) ∙ ap place_in g.2) in cc)

  pub place_of : (t p : ℕ) (j : Job Request) → s.jobs t ≡ Some j → place_in j.stage ≡ Some p → (s.places p ≡ Some t) × (d.at p ≡ Some j.number)
  place_of t p j is at = (let g = f.jobs t j is in go g.0 g.2)
    where
      go : (a : Tryer) → StageFits c s d dues t j a → (s.places p ≡ Some t) × (d.at p ≡ Some j.number)
      go a (AtQueue js its_stage q fit) = absurd (let z : None ≡ Some p = sym (ap place_in js) ∙ at in cc)
      go a (AtOpening q js its_stage pl its fit) = (let z : Some q ≡ Some p = sym (ap place_in js) ∙ at in let same : q ≡ p = cc in (subst (λ p. s.places p ≡ Some t) same pl, subst (λ p. d.at p ≡ Some j.number) same its))
      go a (AtSent q r id m js its_stage pl its tm due rq lt fit) = (let z : Some q ≡ Some p = sym (ap place_in js) ∙ at in let same : q ≡ p = cc in (subst (λ p. s.places p ≡ Some t) same pl, subst (λ p. d.at p ≡ Some j.number) same its))

  -- A job leaves its place.
  module _ (t p : ℕ) (j : Job Request) (is : s.jobs t ≡ Some j) (at : place_in j.stage ≡ Some p) (some : 0 < s.live) (timers dues' : ℕ → Option ℕ) (still : (i u : ℕ) → (t ≡ u → ⊥) → s.timers i ≡ Some u → (timers i ≡ Some u) × (dues' i ≡ dues i)) (were : (i u : ℕ) → timers i ≡ Some u → (s.timers i ≡ Some u) × (t ≡ u → ⊥)) where
    abbrev s' : Slots
    s' = off_place t p timers s

    abbrev d' : Dgrams
    d' = gone p j.number d

    elsewhere : (q u : ℕ) → (t ≡ u → ⊥) → s.places q ≡ Some u → (p ≡ q → ⊥)
    elsewhere q u ne e same = ne (let z : Some t ≡ Some u = sym (place_of t p j is at).0 ∙ (ap s.places same ∙ e) in cc)

    no_place_there : (q : ℕ) → with_at p None s.places q ≡ None → with_at p None d.at q ≡ None
    no_place_there q e = elim (cases_eq p q) [ inl same ↦ subst (λ q. with_at p None d.at q ≡ None) same (with_here p None d.at) | inr ne ↦ with_there p None d.at q ne ∙ f.none q (sym (with_there p None s.places q ne) ∙ e) ]

    around : Around c s s' d d' dues dues' t j.number
    around = record {
      same = λ u i ne nk. record {
        held = with_there j.number None d.held i nk;
        places = λ q e. (let o = elsewhere q u ne e in (with_there p None s.places q o ∙ e, with_there p None d.at q o));
        timers = λ r e. still r u ne e;
        queue = λ i. i;
      };
      jobs = λ u ne. with_there t None s.jobs u ne;
      places = λ q u ne e. (was_there p s.places q u e).1;
      timers = λ r u ne e. (were r u e).0;
      queue = λ u ne i. i;
      none = no_place_there;
      live = ap (λ u. u - 1) f.live;
      few = f.few;
      full = f.full;
    }

    pub leaves_place : AreAlike c (suc n) s' d' dues'
    leaves_place = falls_out c s s' d d' dues dues' n t j.number f around (suc n) (less s.used d.used n f.used (subst (λ n. 0 < n) (sym f.live) some)) j is refl (with_here t None s.jobs) (with_here j.number None d.held)
        (λ q e. (let w = was_there p s.places q t e in w.0 (its_place t p q j is at w.1))) (λ r e. (were r t e).1 refl) (λ i. not_queued t p j is at i)

  -- A job leaves the queue.
  module _ (t : ℕ) (j : Job Request) (is : s.jobs t ≡ Some j) (queued : j.stage ≡ at.Queued) (q : List ℕ) (still : (u : ℕ) → (t ≡ u → ⊥) → IsIn u s.queue → IsIn u q) (were : (u : ℕ) → IsIn u q → IsIn u s.queue × (t ≡ u → ⊥)) where
    pub leaves_queue : AreAlike c n (off_queue t q s) (forget j.number d) dues
    leaves_queue = falls_out c s (off_queue t q s) d (forget j.number d) dues dues n t j.number f
        (record {
          same = λ u i ne nk. record { held = with_there j.number None d.held i nk; places = λ p e. (e, refl); timers = λ r e. (e, refl); queue = λ i. still u ne i };
          jobs = λ u ne. with_there t None s.jobs u ne;
          places = λ p u ne e. e;
          timers = λ r u ne e. e;
          queue = λ u ne i. (were u i).0;
          none = f.none;
          live = f.live;
          few = f.few;
          full = λ u i. f.full u (were u i).0;
        })
        n f.used j is refl (with_here t None s.jobs) (with_here j.number None d.held)
        (λ p e. (let g = f.places p t e in let z : Some p ≡ None = sym g.2 ∙ (ap (λ (j : Job Request). place_in j.stage) (one_job t g.0 j g.1 is) ∙ ap place_in queued) in cc))
        (λ r e. (let g = f.timers r t e in let z : Some r ≡ None = sym g.2 ∙ (ap (λ (j : Job Request). timer_in j.stage) (one_job t g.0 j g.1 is) ∙ ap timer_in queued) in cc))
        (λ i. (were t i).1 refl)

  -- nothing is of a ticket without a job
  no_place : (t q : ℕ) → s.jobs t ≡ None → s.places q ≡ Some t → ⊥
  no_place t q none e = (let g = f.places q t e in let z : None ≡ Some g.0 = sym none ∙ g.1 in cc)

  no_timer : (t r : ℕ) → s.jobs t ≡ None → s.timers r ≡ Some t → ⊥
  no_timer t r none e = (let g = f.timers r t e in let z : None ≡ Some g.0 = sym none ∙ g.1 in cc)

  no_queue : (t : ℕ) → s.jobs t ≡ None → IsIn t s.queue → ⊥
  no_queue t none i = (let g = f.queue t i in let z : None ≡ Some g.0 = sym none ∙ g.1 in cc)

  -- A job comes into the queue.
  pub joins_queue : (t k : ℕ) (j : Job Request) (a : Tryer) (q : List ℕ) → s.jobs t ≡ None → d.held k ≡ None → j.number ≡ k → j.stage ≡ at.Queued → a.stage ≡ Queued → IsJobOf c j a c.transports.dgram_max_retries → s.used ≡ max_places c → ((u : ℕ) → IsIn u s.queue → IsIn u q) → IsIn t q → ((u : ℕ) → (t ≡ u → ⊥) → IsIn u q → IsIn u s.queue) → AreAlike c n (at_queue t j q s) (waits k a d) dues
  joins_queue t k j a q absent unheld number js its_stage fit full still here were = comes_in c s (at_queue t j q s) d (waits k a d) dues dues n t k f
      (record {
        same = λ u i ne nk. record { held = with_there k (Some a) d.held i nk; places = λ p e. (e, refl); timers = λ r e. (e, refl); queue = λ i. still u i };
        jobs = λ u ne. with_there t (Some j) s.jobs u ne;
        places = λ p u ne e. e;
        timers = λ r u ne e. e;
        queue = λ u ne i. were u ne i;
        none = f.none;
        live = f.live;
        few = f.few;
        full = λ u i. full;
      })
      n f.used absent unheld j (with_here t (Some j) s.jobs) number a (with_here k (Some a) d.held) (AtQueue js its_stage here fit) (λ p e. absurd (no_place t p absent e)) (λ r e. absurd (no_timer t r absent e)) (λ i. js)

-- A job comes to a place, which is new.
module _ (c : Conf) (n : ℕ) (s : Slots) (d : Dgrams) (dues : ℕ → Option ℕ) (f : AreAlike c (suc n) s d dues) (t p k : ℕ) (j : Job Request) (a : Tryer) (absent : s.jobs t ≡ None) (unheld : d.held k ≡ None) (new : s.places p ≡ None) (number : j.number ≡ k) (at : place_in j.stage ≡ Some p) (timers dues' : ℕ → Option ℕ) (still : (i u : ℕ) → (t ≡ u → ⊥) → s.timers i ≡ Some u → (timers i ≡ Some u) × (dues' i ≡ dues i))
    (were : (i u : ℕ) → (t ≡ u → ⊥) → timers i ≡ Some u → s.timers i ≡ Some u) (its : (i : ℕ) → timers i ≡ Some t → timer_in j.stage ≡ Some i) (fits : StageFits c (at_place t p j timers s) (come p k a d) dues' t j a) where
  taken : (q u : ℕ) → s.places q ≡ Some u → (p ≡ q → ⊥)
  taken q u e same = (let z : None ≡ Some u = sym new ∙ (ap s.places same ∙ e) in cc)

  its_own : (q : ℕ) → with_at p (Some t) s.places q ≡ Some t → place_in j.stage ≡ Some q
  its_own q e = elim (is_or_was p (Some t) s.places q t e) [ inl x ↦ at ∙ ap Some x.0 | inr x ↦ absurd (no_place c (suc n) s d dues f t q absent x.1) ]

  were_places : (q u : ℕ) → (t ≡ u → ⊥) → with_at p (Some t) s.places q ≡ Some u → s.places q ≡ Some u
  were_places q u ne e = elim (is_or_was p (Some t) s.places q u e) [ inl x ↦ absurd (ne (let z : Some t ≡ Some u = x.1 in cc)) | inr x ↦ x.1 ]

  none_there : (q : ℕ) → with_at p (Some t) s.places q ≡ None → with_at p (Some k) d.at q ≡ None
  none_there q e = elim (cases_eq p q) [ inl same ↦ absurd (let z : Some t ≡ None = sym (with_here p (Some t) s.places) ∙ (ap (with_at p (Some t) s.places) same ∙ e) in cc) | inr ne ↦ with_there p (Some k) d.at q ne ∙ f.none q (sym (with_there p (Some t) s.places q ne) ∙ e) ]

  pub comes_to_place : AreAlike c n (at_place t p j timers s) (come p k a d) dues'
  comes_to_place = comes_in c s (at_place t p j timers s) d (come p k a d) dues dues' (suc n) t k f
      (record {
        same = λ u i ne nk. record { held = with_there k (Some a) d.held i nk; places = λ q e. (let o = taken q u e in (with_there p (Some t) s.places q o ∙ e, with_there p (Some k) d.at q o)); timers = λ r e. still r u ne e; queue = λ i. i };
        jobs = λ u ne. with_there t (Some j) s.jobs u ne;
        places = were_places;
        timers = were;
        queue = λ u ne i. i;
        none = none_there;
        live = ap suc f.live;
        few = f.few;
        full = f.full;
      })
      n (more s.used d.used n f.used) absent unheld j (with_here t (Some j) s.jobs) number a (with_here k (Some a) d.held) fits its_own its (λ i. absurd (no_queue c (suc n) s d dues f t absent i))

-- a slot is taken for one who comes, or is free for nobody
pub takes_slot : (c : Conf) (s : Slots) (d : Dgrams) (dues : ℕ → Option ℕ) → AreAlike c 0 s d dues → s.used < max_places c → AreAlike c 1 (record s { used = s.used + 1 }) d dues
takes_slot c s d dues f lt = record { jobs = λ t j e. (let g = f.jobs t j e in (g.0, g.1, again t j g.0 g.2)); held = f.held; apart = f.apart; places = f.places; none = f.none; timers = f.timers; queue = f.queue; live = f.live; used = (let e = f.used in omega arith); few = omega arith; full = λ u i. absurd (let e = f.full u i in omega arith) }
  where
    again : (t : ℕ) (j : Job Request) (a : Tryer) → StageFits c s d dues t j a → StageFits c (record s { used = s.used + 1 }) d dues t j a
    again t j a (AtQueue js its_stage q fit) = AtQueue js its_stage q fit
    again t j a (AtOpening p js its_stage pl its fit) = AtOpening p js its_stage pl its fit
    again t j a (AtSent p r id m js its_stage pl its tm due rq lt fit) = AtSent p r id m js its_stage pl its tm due rq lt fit

pub drops_slot : (c : Conf) (s : Slots) (d : Dgrams) (dues : ℕ → Option ℕ) → AreAlike c 1 s d dues → s.queue ≡ [] → AreAlike c 0 (record s { used = s.used - 1 }) d dues
drops_slot c s d dues f none = record { jobs = λ t j e. (let g = f.jobs t j e in (g.0, g.1, again t j g.0 g.2)); held = f.held; apart = f.apart; places = f.places; none = f.none; timers = f.timers; queue = f.queue; live = f.live; used = (let e = f.used in omega arith); few = (let e = f.few in omega arith); full = λ u i. absurd (subst (IsIn u) none i) }
  where
    again : (t : ℕ) (j : Job Request) (a : Tryer) → StageFits c s d dues t j a → StageFits c (record s { used = s.used - 1 }) d dues t j a
    again t j a (AtQueue js its_stage q fit) = AtQueue js its_stage q fit
    again t j a (AtOpening p js its_stage pl its fit) = AtOpening p js its_stage pl its fit
    again t j a (AtSent p r id m js its_stage pl its tm due rq lt fit) = AtSent p r id m js its_stage pl its tm due rq lt fit
