-- One request changes, and all others stay as they are.
use Rattle.std.proofs.Common.{◌≡◌, ◌≢◌, ℕ, ◌+◌, ◌≤◌, inl, inr, Option, Some, None, refl, sym, ap, subst, ◌∙◌, arith}
use Rattle.std.proofs.lemmas.Bool.{cases_eq}
use Rattle.client_request.specs.Request.{Request}
use Rattle.client_dgram.specs.declared.job.Job.{Job}
use Rattle.client_dgram.specs.declared.job.Stage.TheVariants as at
use Rattle.proof_right.specs.machine.Dgrams.{Ending, Tryer, Dgrams}
use Rattle.proof_right.specs.machine.Served.{IsSettled}
use Rattle.proof_dgram.specs.Slots.{IsIn, place_in, timer_in, Slots, StageFits, AtQueue, AtOpening, AtSent, AreAlike}
use Rattle.right_trace.specs.Trace.{Conf}
use Rattle.right_trace.specs.Time.{max_places}

-- nobody has a result that is to be given
pub settled : (c : Conf) (n : ℕ) (s : Slots) (d : Dgrams) (dues : ℕ → Option ℕ) → AreAlike c n s d dues → IsSettled d
settled c n s d dues f k a held y =
    let x = f.held k a held in
    let g = f.jobs x.0 x.1 x.2 in
    let same : g.0 ≡ a = (let z : Some g.0 ≡ Some a = sym g.1 ∙ (ap d.held x.3 ∙ held) in cc) in
    subst (λ (a : Tryer). a.stage ≢ Ending y) same (fixed x.0 x.1 g.0 g.2)
  where
    fixed : (t : ℕ) (j : Job Request) (a : Tryer) → StageFits c s d dues t j a → a.stage ≢ Ending y
    fixed t j a (AtQueue js its_stage q fit) = λ e. cc
    fixed t j a (AtOpening p js its_stage pl at fit) = λ e. cc
    fixed t j a (AtSent p r id m js its_stage pl at tm due rq lt fit) = λ e. cc

-- the machine's request of a job
pub tryer_of : (c : Conf) (n : ℕ) (s : Slots) (d : Dgrams) (dues : ℕ → Option ℕ) → AreAlike c n s d dues → (t : ℕ) (j : Job Request) → s.jobs t ≡ Some j → (a : Tryer) × (d.held j.number ≡ Some a) × StageFits c s d dues t j a
tryer_of c n s d dues f t j e = f.jobs t j e

module _ (c : Conf) (s s' : Slots) (d d' : Dgrams) (dues dues' : ℕ → Option ℕ) where
  -- ticket t of request k is where it was
  pub record SameFor (t k : ℕ) : Type 0 where
    pub held : d'.held k ≡ d.held k
    pub places : (p : ℕ) → s.places p ≡ Some t → (s'.places p ≡ Some t) × (d'.at p ≡ d.at p)
    pub timers : (r : ℕ) → s.timers r ≡ Some t → (s'.timers r ≡ Some t) × (dues' r ≡ dues r)
    pub queue : IsIn t s.queue → IsIn t s'.queue

  pub same_stage : (t : ℕ) (j : Job Request) (a : Tryer) → SameFor t j.number → StageFits c s d dues t j a → StageFits c s' d' dues' t j a
  same_stage t j a same (AtQueue js its_stage q fit) = AtQueue js its_stage (same.queue q) fit
  same_stage t j a same (AtOpening p js its_stage pl at fit) = (let z = same.places p pl in AtOpening p js its_stage z.0 (z.1 ∙ at) fit)
  same_stage t j a same (AtSent p r id m js its_stage pl at tm due rq lt fit) = (let z = same.places p pl in let y = same.timers r tm in AtSent p r id m js its_stage z.0 (z.1 ∙ at) y.0 (y.1 ∙ due) rq lt fit)

  -- All but ticket t of request k stay as they are.
  pub record Around (t k : ℕ) : Type 0 where
    pub same : (u i : ℕ) → (t ≡ u → ⊥) → (k ≡ i → ⊥) → SameFor u i
    pub jobs : (u : ℕ) → (t ≡ u → ⊥) → s'.jobs u ≡ s.jobs u
    pub places : (p u : ℕ) → (t ≡ u → ⊥) → s'.places p ≡ Some u → s.places p ≡ Some u
    pub timers : (r u : ℕ) → (t ≡ u → ⊥) → s'.timers r ≡ Some u → s.timers r ≡ Some u
    pub queue : (u : ℕ) → (t ≡ u → ⊥) → IsIn u s'.queue → IsIn u s.queue
    pub none : (p : ℕ) → s'.places p ≡ None → d'.at p ≡ None
    pub live : d'.used ≡ s'.live
    pub few : s'.used ≤ max_places c
    pub full : (u : ℕ) → IsIn u s'.queue → s'.used ≡ max_places c

  -- What is known of others.
  module _ (n t k : ℕ) (f : AreAlike c n s d dues) (around : Around t k) (m : ℕ) (used : s'.used ≡ d'.used + m) where
    held_same : (i : ℕ) → (k ≡ i → ⊥) → d'.held i ≡ d.held i
    held_same i ne = (around.same (t + 1) i (λ e. omega arith) ne).held

    other_job : (u : ℕ) (j : Job Request) → (t ≡ u → ⊥) → (k ≡ j.number → ⊥) → s'.jobs u ≡ Some j → (a : Tryer) × (d'.held j.number ≡ Some a) × StageFits c s' d' dues' u j a
    other_job u j ne nk e =
        let g = f.jobs u j (sym (around.jobs u ne) ∙ e) in
        let same = around.same u j.number ne nk in
        (g.0, same.held ∙ g.1, same_stage u j g.0 same g.2)

    other_place : (p u : ℕ) → (t ≡ u → ⊥) → s'.places p ≡ Some u → (j : Job Request) × (s'.jobs u ≡ Some j) × (place_in j.stage ≡ Some p)
    other_place p u ne e = (let g = f.places p u (around.places p u ne e) in (g.0, around.jobs u ne ∙ g.1, g.2))

    other_timer : (r u : ℕ) → (t ≡ u → ⊥) → s'.timers r ≡ Some u → (j : Job Request) × (s'.jobs u ≡ Some j) × (timer_in j.stage ≡ Some r)
    other_timer r u ne e = (let g = f.timers r u (around.timers r u ne e) in (g.0, around.jobs u ne ∙ g.1, g.2))

    other_queued : (u : ℕ) → (t ≡ u → ⊥) → IsIn u s'.queue → (j : Job Request) × (s'.jobs u ≡ Some j) × (j.stage ≡ at.Queued)
    other_queued u ne i = (let g = f.queue u (around.queue u ne i) in (g.0, around.jobs u ne ∙ g.1, g.2))

    -- The job of ticket t goes, and its request with it.
    module _ (j : Job Request) (is : s.jobs t ≡ Some j) (number : j.number ≡ k) (gone : s'.jobs t ≡ None) (unheld : d'.held k ≡ None) (no_place : (p : ℕ) → s'.places p ≡ Some t → ⊥) (no_timer : (r : ℕ) → s'.timers r ≡ Some t → ⊥) (no_queue : IsIn t s'.queue → ⊥) where
      not_it : (u : ℕ) (i : Job Request) → s'.jobs u ≡ Some i → (t ≡ u → ⊥)
      not_it u i e same = (let z : Some i ≡ None = sym e ∙ (ap s'.jobs (sym same) ∙ gone) in cc)

      not_its : (u : ℕ) (i : Job Request) → s'.jobs u ≡ Some i → (k ≡ i.number → ⊥)
      not_its u i e same = (let ne = not_it u i e in ne (f.apart t u j i is (sym (around.jobs u ne) ∙ e) (number ∙ same)))

      still_held : (i : ℕ) (a : Tryer) → d'.held i ≡ Some a → (u : ℕ) × (h : Job Request) × (s'.jobs u ≡ Some h) × (h.number ≡ i)
      still_held i a e =
          let nk : k ≡ i → ⊥ = λ same. (let z : None ≡ Some a = sym unheld ∙ (ap d'.held same ∙ e) in cc) in
          let x = f.held i a (sym (held_same i nk) ∙ e) in
          let ne : t ≡ x.0 → ⊥ = λ same. nk (let z : Some j ≡ Some x.1 = sym is ∙ (ap s.jobs same ∙ x.2) in let y : j ≡ x.1 = cc in sym number ∙ (ap (λ (j : Job Request). j.number) y ∙ x.3)) in
          (x.0, x.1, around.jobs x.0 ne ∙ x.2, x.3)

      pub falls_out : AreAlike c m s' d' dues'
      falls_out = record {
        jobs = λ u i e. other_job u i (not_it u i e) (not_its u i e) e;
        held = still_held;
        apart = λ u v i h a b e. f.apart u v i h (sym (around.jobs u (not_it u i a)) ∙ a) (sym (around.jobs v (not_it v h b)) ∙ b) e;
        places = λ p u e. other_place p u (λ same. no_place p (e ∙ ap Some (sym same))) e;
        none = around.none;
        timers = λ r u e. other_timer r u (λ same. no_timer r (e ∙ ap Some (sym same))) e;
        queue = λ u i. other_queued u (λ same. no_queue (subst (λ u. IsIn u s'.queue) (sym same) i)) i;
        live = around.live;
        used = used;
        few = around.few;
        full = around.full;
      }

    -- A job comes under a ticket that had none, of a request that was not held.
    module _ (absent : s.jobs t ≡ None) (unheld : d.held k ≡ None) (j : Job Request) (is : s'.jobs t ≡ Some j) (number : j.number ≡ k) (a : Tryer) (held : d'.held k ≡ Some a) (fits : StageFits c s' d' dues' t j a) (its_place : (p : ℕ) → s'.places p ≡ Some t → place_in j.stage ≡ Some p) (its_timer : (r : ℕ) → s'.timers r ≡ Some t → timer_in j.stage ≡ Some r) (its_queue : IsIn t s'.queue → j.stage ≡ at.Queued) where
      same_here : (u : ℕ) (i : Job Request) → t ≡ u → s'.jobs u ≡ Some i → j ≡ i
      same_here u i e at = (let z : Some j ≡ Some i = sym is ∙ (ap s'.jobs e ∙ at) in cc)

      another : (u : ℕ) (i : Job Request) → (t ≡ u → ⊥) → s'.jobs u ≡ Some i → (k ≡ i.number → ⊥)
      another u i ne e same = (let g = f.jobs u i (sym (around.jobs u ne) ∙ e) in let z : None ≡ Some g.0 = sym unheld ∙ (ap d.held same ∙ g.1) in cc)

      one_each : (u v : ℕ) (i h : Job Request) → s'.jobs u ≡ Some i → s'.jobs v ≡ Some h → i.number ≡ h.number → u ≡ v
      one_each u v i h a b e = elim (cases_eq t u) [
        | inl x ↦ elim (cases_eq t v) [ inl y ↦ sym x ∙ y | inr y ↦ absurd (another v h y b (sym number ∙ (ap (λ (j : Job Request). j.number) (same_here u i x a) ∙ e))) ]
        | inr x ↦ elim (cases_eq t v) [ inl y ↦ absurd (another u i x a (sym number ∙ (ap (λ (j : Job Request). j.number) (same_here v h y b) ∙ sym e))) | inr y ↦ f.apart u v i h (sym (around.jobs u x) ∙ a) (sym (around.jobs v y) ∙ b) e ]
      ]

      is_held : (i : ℕ) (b : Tryer) → d'.held i ≡ Some b → (u : ℕ) × (h : Job Request) × (s'.jobs u ≡ Some h) × (h.number ≡ i)
      is_held i b e = elim (cases_eq k i) [
        | inl same ↦ (t, j, is, number ∙ same)
        | inr ne ↦ (let x = f.held i b (sym (held_same i ne) ∙ e) in let apart : t ≡ x.0 → ⊥ = λ same. (let z : None ≡ Some x.1 = sym absent ∙ (ap s.jobs same ∙ x.2) in cc) in (x.0, x.1, around.jobs x.0 apart ∙ x.2, x.3))
      ]

      pub comes_in : AreAlike c m s' d' dues'
      comes_in = record {
        jobs = λ u i e. elim (cases_eq t u) [
          | inl x ↦ subst (λ (i : Job Request). (a : Tryer) × (d'.held i.number ≡ Some a) × StageFits c s' d' dues' u i a) (same_here u i x e) (subst (λ u. (a : Tryer) × (d'.held j.number ≡ Some a) × StageFits c s' d' dues' u j a) x (a, ap d'.held number ∙ held, fits))
          | inr ne ↦ other_job u i ne (another u i ne e) e
        ];
        held = is_held;
        apart = one_each;
        places = λ p u e. elim (cases_eq t u) [ inl x ↦ (j, ap s'.jobs (sym x) ∙ is, its_place p (e ∙ ap Some (sym x))) | inr ne ↦ other_place p u ne e ];
        none = around.none;
        timers = λ r u e. elim (cases_eq t u) [ inl x ↦ (j, ap s'.jobs (sym x) ∙ is, its_timer r (e ∙ ap Some (sym x))) | inr ne ↦ other_timer r u ne e ];
        queue = λ u i. elim (cases_eq t u) [ inl x ↦ (j, ap s'.jobs (sym x) ∙ is, its_queue (subst (λ u. IsIn u s'.queue) (sym x) i)) | inr ne ↦ other_queued u ne i ];
        live = around.live;
        used = used;
        few = around.few;
        full = around.full;
      }

-- one state of the machine for another that says the same
pub alike_as : (c : Conf) (n : ℕ) (s : Slots) (d d' : Dgrams) (dues : ℕ → Option ℕ) → ((k : ℕ) → d'.held k ≡ d.held k) → ((p : ℕ) → d'.at p ≡ d.at p) → d'.used ≡ d.used → AreAlike c n s d dues → AreAlike c n s d' dues
alike_as c n s d d' dues held at used f = record {
  jobs = λ t j e. (let g = f.jobs t j e in (g.0, held j.number ∙ g.1, same_stage c s s d d' dues dues t j g.0 (record { held = held j.number; places = λ p e. (e, at p); timers = λ r e. (e, refl); queue = λ i. i }) g.2));
  held = λ k a e. f.held k a (sym (held k) ∙ e);
  apart = f.apart;
  places = f.places;
  none = λ p e. at p ∙ f.none p e;
  timers = f.timers;
  queue = f.queue;
  live = used ∙ f.live;
  used = f.used ∙ ap (λ u. u + n) (sym used);
  few = f.few;
  full = f.full;
}
