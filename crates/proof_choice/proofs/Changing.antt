-- What agrees of the requests stays so while one of them changes, or ends.
use Rattle.std.proofs.Common.{◌≡◌, ℕ, ◌<◌, ◌⊎◌, inl, inr, [], length, Option, Some, None, refl, sym, ap, subst, ◌∙◌}
use Rattle.proof_right.specs.machine.Client.{Waiting}
use Rattle.right_trace.specs.Updates.{with_at}
use Rattle.proof_parts.proofs.Keys.{each_number, with_here, with_there, was_there}
use Rattle.proof_choice.specs.Choosing.{Choosing}
use Rattle.proof_choice.specs.Requests.{Work, Begun, Desk, Waits, IsKept, IsOwed, IsNamed, AreKept}
use Rattle.proof_choice.proofs.AtServer.{both_are, none_is}

module _ (g : Choosing) where
  -- Of d and d', the request of ticket t is changed, from job to job'.
  pub record Changes (t : ℕ) (job job' : Work g) (d d' : Desk g) : Type 0 where
    pub jobs : d'.jobs ≡ with_at t (Some job') d.jobs
    pub is : d.jobs t ≡ Some job
    pub number : job'.number ≡ job.number
    pub here : IsKept g d' t job'
    pub others : (u : ℕ) (other : Work g) → (t ≡ u → ⊥) → d.jobs u ≡ Some other → IsKept g d u other → IsKept g d' u other
    pub owed : (s i k : ℕ) → s < length (g.c).servers → d'.named s i ≡ Some k → ((d.named s i ≡ Some k) × (IsOwed g k job.started s i → IsOwed g k job'.started s i)) ⊎ ((job.number ≡ k) × IsOwed g k job'.started s i)
    pub held : (k : ℕ) (a : Waiting) → d'.held k ≡ Some a → (b : Waiting) × (d.held k ≡ Some b)
    pub timers : (i u : ℕ) → d'.timers i ≡ Some u → ((t ≡ u → ⊥) × (d.timers i ≡ Some u)) ⊎ ((t ≡ u) × (job'.timer ≡ Some i))

  pub changed : (t : ℕ) (job job' : Work g) (over : ℕ) (d d' : Desk g) → Changes t job job' d d' → AreKept g over [] d → AreKept g over [] d'
  changed t job job' over d d' f k = record {
    kept = λ u other is. each_number (λ u. d'.jobs u ≡ Some other → IsKept g d' u other) t
        (λ is. subst (IsKept g d' t) (both_are (d'.jobs t) job' other at_t is) f.here)
        (λ u ne is. f.others u other ne (was u other ne is) (k.kept u other (was u other ne is))) u is;
    named = λ s i n lt is. elim (f.owed s i n lt is) [
      | inl p ↦ elim (k.named s i n lt p.0) [ inl m ↦ inl (still s i n p.1 m) | inr o ↦ absurd (nothing n s i o.1) ]
      | inr p ↦ inl (record { ticket = t; job = job'; is = at_t; number = f.number ∙ p.0; owed = p.1 })
    ];
    held = λ n a is. (let b = f.held n a is in let m = k.held n b.0 b.1 in found m.0 m.1 n m.2 m.3);
    timers = λ i u is. elim (f.timers i u is) [
      | inl p ↦ (let m = k.timers i u p.1 in (m.0, now u m.0 p.0 m.1, m.2))
      | inr p ↦ (job', subst (λ u. d'.jobs u ≡ Some job') p.0 at_t, p.1)
    ];
    apart = λ u w a b p q n. each_number (λ u. d'.jobs u ≡ Some a → u ≡ w) t
        (λ p. each_number (λ w. d'.jobs w ≡ Some b → t ≡ w) t (λ q. refl)
        (λ w ne q. k.apart t w job b f.is (was w b ne q) (sym f.number ∙ (ap (λ (x : Work g). x.number) (both_are (d'.jobs t) job' a at_t p) ∙ n))) w q)
        (λ u ne p. each_number (λ w. d'.jobs w ≡ Some b → u ≡ w) t
        (λ q. k.apart u t a job (was u a ne p) f.is (n ∙ (sym (ap (λ (x : Work g). x.number) (both_are (d'.jobs t) job' b at_t q)) ∙ f.number)))
        (λ w re q. k.apart u w a b (was u a ne p) (was w b re q) n) w q) u p;
  }
    where
      at_t : d'.jobs t ≡ Some job'
      at_t = ap (λ (h : ℕ → Option (Work g)). h t) f.jobs ∙ with_here t (Some job') d.jobs

      was : (u : ℕ) (other : Work g) → (t ≡ u → ⊥) → d'.jobs u ≡ Some other → d.jobs u ≡ Some other
      was u other ne is = sym (with_there t (Some job') d.jobs u ne) ∙ (sym (ap (λ (h : ℕ → Option (Work g)). h u) f.jobs) ∙ is)

      now : (u : ℕ) (other : Work g) → (t ≡ u → ⊥) → d.jobs u ≡ Some other → d'.jobs u ≡ Some other
      now u other ne is = ap (λ (h : ℕ → Option (Work g)). h u) f.jobs ∙ (with_there t (Some job') d.jobs u ne ∙ is)

      nothing : (n s i : ℕ) → IsOwed g n [] s i → ⊥
      nothing n s i o = o.is

      found : (u : ℕ) (other : Work g) (n : ℕ) → d.jobs u ≡ Some other → other.number ≡ n → (u : ℕ) × (other : Work g) × (d'.jobs u ≡ Some other) × (other.number ≡ n)
      found u other n is e = each_number (λ u. d.jobs u ≡ Some other → (u : ℕ) × (other : Work g) × (d'.jobs u ≡ Some other) × (other.number ≡ n)) t
          (λ is. (t, job', at_t, f.number ∙ (ap (λ (x : Work g). x.number) (both_are (d.jobs t) job other f.is is) ∙ e)))
          (λ u ne is. (u, other, now u other ne is, e)) u is

      still : (s i n : ℕ) → (IsOwed g n job.started s i → IsOwed g n job'.started s i) → IsNamed g d s i n → IsNamed g d' s i n
      still s i n on m = each_number (λ u. d.jobs u ≡ Some m.job → IsNamed g d' s i n) t
          (λ is. (let e = both_are (d.jobs t) job m.job f.is is in
          record { ticket = t; job = job'; is = at_t; number = f.number ∙ (ap (λ (x : Work g). x.number) e ∙ m.number); owed = on (subst (λ (x : Work g). IsOwed g n x.started s i) (sym e) m.owed) }))
          (λ u ne is. record { ticket = u; job = m.job; is = now u m.job ne is; number = m.number; owed = m.owed }) m.ticket m.is

  -- The request of ticket t ends: what is owed to it is to be given up.
  pub ended : (t : ℕ) (job : Work g) (d d' : Desk g) → d.jobs t ≡ Some job → job.timer ≡ None → d'.jobs ≡ with_at t None d.jobs → d'.timers ≡ d.timers → d'.waiting ≡ d.waiting → d'.named ≡ d.named → d'.held ≡ with_at job.number None d.held
      → d'.dues ≡ d.dues → (over : ℕ) → AreKept g over [] d → AreKept g job.number job.started d'
  ended t job d d' is_job calm jobs timers waiting named held dues over k = record {
    kept = λ u other is. (let w = was u other is in keeps u other w.0 w.1 (k.kept u other w.1));
    named = λ s i n lt is. elim (k.named s i n lt (subst (λ (h : ℕ → ℕ → Option ℕ). h s i ≡ Some n) named is)) [
      | inl m ↦ each_number (λ u. d.jobs u ≡ Some m.job → IsNamed g d' s i n ⊎ ((job.number ≡ n) × IsOwed g n job.started s i)) t
          (λ is. (let e = both_are (d.jobs t) job m.job is_job is in inr (ap (λ (x : Work g). x.number) e ∙ m.number, subst (λ (x : Work g). IsOwed g n x.started s i) (sym e) m.owed)))
          (λ u ne is. inl (record { ticket = u; job = m.job; is = now u m.job ne is; number = m.number; owed = m.owed })) m.ticket m.is
      | inr o ↦ absurd (nothing n s i o.1)
    ];
    held = λ n a is. (let w = was_held n a is in let m = k.held n a w.1 in (m.0, m.1, now m.0 m.1 (λ same. w.0 (ap (λ (x : Work g). x.number) (both_are (d.jobs m.0) job m.1 (subst (λ u. d.jobs u ≡ Some job) same is_job) m.2) ∙ m.3)) m.2, m.3));
    timers = λ i u is. (let m = k.timers i u (subst (λ (h : ℕ → Option ℕ). h i ≡ Some u) timers is) in
        (m.0, now u m.0 (λ same. none_is job.timer i calm (ap (λ (x : Work g). x.timer) (both_are (d.jobs u) job m.0 (subst (λ u. d.jobs u ≡ Some job) same is_job) m.1) ∙ m.2)) m.1, m.2));
    apart = λ u w a b p q n. k.apart u w a b (was u a p).1 (was w b q).1 n;
  }
    where
      was : (u : ℕ) (other : Work g) → d'.jobs u ≡ Some other → (t ≡ u → ⊥) × (d.jobs u ≡ Some other)
      was u other is = was_there t d.jobs u other (sym (ap (λ (h : ℕ → Option (Work g)). h u) jobs) ∙ is)

      was_held : (n : ℕ) (a : Waiting) → d'.held n ≡ Some a → (job.number ≡ n → ⊥) × (d.held n ≡ Some a)
      was_held n a is = was_there job.number d.held n a (sym (ap (λ (h : ℕ → Option Waiting). h n) held) ∙ is)

      now : (u : ℕ) (other : Work g) → (t ≡ u → ⊥) → d.jobs u ≡ Some other → d'.jobs u ≡ Some other
      now u other ne is = ap (λ (h : ℕ → Option (Work g)). h u) jobs ∙ (with_there t None d.jobs u ne ∙ is)

      nothing : (n s i : ℕ) → IsOwed g n [] s i → ⊥
      nothing n s i o = o.is

      waits_so : (u n : ℕ) (e : Begun g) (r : g.R) → Waits g d u n e r → Waits g d' u n e r
      waits_so u n e r w = record { within = w.within; fits = w.fits; ticket = w.ticket; waiting = subst (λ (h : ℕ → ℕ → Option ℕ). h e.server e.lower ≡ Some u) (sym waiting) w.waiting; named = subst (λ (h : ℕ → ℕ → Option ℕ). h e.server e.lower ≡ Some n) (sym named) w.named }

      keeps : (u : ℕ) (other : Work g) → (t ≡ u → ⊥) → d.jobs u ≡ Some other → IsKept g d u other → IsKept g d' u other
      keeps u other ne is m = record {
        ask = m.ask;
        is = ap (λ (h : ℕ → Option Waiting). h other.number) held ∙ (with_there job.number None d.held other.number (λ same. ne (k.apart t u job other is_job is same)) ∙ m.is);
        request = m.request;
        octets = m.octets;
        left = m.left;
        all = m.all;
        tried = m.tried;
        waits = λ e i r p. waits_so u other.number e r (m.waits e i r p);
        apart = m.apart;
        deferred = m.deferred;
        timer = λ i p. (let q = m.timer i p in (subst (λ (h : ℕ → Option ℕ). h i ≡ Some u) (sym timers) q.0, (q.1.0, subst (λ (h : ℕ → Option ℕ). h i ≡ Some q.1.0) (sym dues) q.1.1)));
        armed = m.armed;
      }
