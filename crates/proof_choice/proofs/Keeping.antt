-- What agrees of the requests stays so while a server gives one up.
use Rattle.std.proofs.Common.{◌≡◌, ℕ, inl, inr, List, ◌∷◌, Option, Some, None, sym, ap, subst, subst₂, ◌∙◌}
use Rattle.proof_right.specs.machine.Client.{Waiting}
use Rattle.proof_choice.specs.Choosing.{Choosing}
use Rattle.proof_choice.specs.Requests.{Work, Begun, Desk, Waits, IsKept, IsOwed, AreKept}
use Rattle.proof_choice.proofs.AtServer.{both_are, none_is}

module _ (g : Choosing) where
  -- Of d and d', what waits at all servers is the same, but for one ticket of one server.
  pub record Differ (s lower : ℕ) (d d' : Desk g) : Type 0 where
    pub waiting : (q i : ℕ) → (s ≡ q → lower ≡ i → ⊥) → d'.waiting q i ≡ d.waiting q i
    pub named : (q i : ℕ) → (s ≡ q → lower ≡ i → ⊥) → d'.named q i ≡ d.named q i
    pub dues : (i t due : ℕ) → d.timers i ≡ Some t → d.dues i ≡ Some due → d'.dues i ≡ Some due

  pub waits_on : (s lower : ℕ) (d d' : Desk g) (t k : ℕ) (e : Begun g) (r : g.R) → Differ s lower d d' → (s ≡ e.server → lower ≡ e.lower → ⊥) → Waits g d t k e r → Waits g d' t k e r
  waits_on s lower d d' t k e r f ne w = record { within = w.within; fits = w.fits; ticket = w.ticket; waiting = f.waiting e.server e.lower ne ∙ w.waiting; named = f.named e.server e.lower ne ∙ w.named }

  -- A server gives up a request that is over.
  pub one_dropped : (over : ℕ) (e : Begun g) (es : List (Begun g)) (d : Desk g) (d' : Desk g) (t : ℕ) → d.jobs t ≡ None → d.waiting e.server e.lower ≡ Some t
      → d'.jobs ≡ d.jobs → d'.timers ≡ d.timers → d'.held ≡ d.held → Differ e.server e.lower d d' → d'.named e.server e.lower ≡ None → AreKept g over (e ∷ es) d → AreKept g over es d'
  one_dropped over e es d d' t none mine jobs timers held f gone k = record {
    kept = λ u job is. keeps u job (subst (λ (h : ℕ → Option (Work g)). h u ≡ Some job) jobs is);
    named = λ s i n lt is. elim (k.named s i n lt (sym (f.named s i (other s i n is)) ∙ is)) [
      | inl m ↦ inl (record { ticket = m.ticket; job = m.job; is = subst (λ (h : ℕ → Option (Work g)). h m.ticket ≡ Some m.job) (sym jobs) m.is; number = m.number; owed = m.owed })
      | inr o ↦ inr (o.0, behind s i n (other s i n is) o.1)
    ];
    held = λ n a is. (let m = k.held n a (subst (λ (h : ℕ → Option Waiting). h n ≡ Some a) held is) in (m.0, m.1, subst (λ (h : ℕ → Option (Work g)). h m.0 ≡ Some m.1) (sym jobs) m.2, m.3));
    timers = λ i u is. (let m = k.timers i u (subst (λ (h : ℕ → Option ℕ). h i ≡ Some u) timers is) in (m.0, subst (λ (h : ℕ → Option (Work g)). h u ≡ Some m.0) (sym jobs) m.1, m.2));
    apart = λ u w job other p q n. k.apart u w job other (subst (λ (h : ℕ → Option (Work g)). h u ≡ Some job) jobs p) (subst (λ (h : ℕ → Option (Work g)). h w ≡ Some other) jobs q) n;
  }
    where
      other : (s i n : ℕ) → d'.named s i ≡ Some n → e.server ≡ s → e.lower ≡ i → ⊥
      other s i n is p q = none_is (d'.named s i) n (subst₂ (λ s i. d'.named s i ≡ None) p q gone) is

      behind : (s i n : ℕ) → (e.server ≡ s → e.lower ≡ i → ⊥) → IsOwed g n (e ∷ es) s i → IsOwed g n es s i
      behind s i n ne o = elim o.is [
        | inl same ↦ absurd (ne (ap (λ (e : Begun g). e.server) same ∙ o.server) (ap (λ (e : Begun g). e.lower) same ∙ o.lower))
        | inr m ↦ record { entry = o.entry; is = m; server = o.server; lower = o.lower; response = o.response; to_come = o.to_come }
      ]

      -- no request that waits is at that ticket
      far : (u : ℕ) (job : Work g) (b : Begun g) → d.jobs u ≡ Some job → d.waiting b.server b.lower ≡ Some u → e.server ≡ b.server → e.lower ≡ b.lower → ⊥
      far u job b is w p q = none_is (d.jobs u) job (subst (λ u. d.jobs u ≡ None) (both_are (d.waiting b.server b.lower) t u (subst₂ (λ s i. d.waiting s i ≡ Some t) p q mine) w) none) is

      keeps : (u : ℕ) (job : Work g) → d.jobs u ≡ Some job → IsKept g d' u job
      keeps u job is = (let m = k.kept u job is in record {
        ask = m.ask;
        is = subst (λ (h : ℕ → Option Waiting). h job.number ≡ Some m.ask) (sym held) m.is;
        request = m.request;
        octets = m.octets;
        left = m.left;
        all = m.all;
        tried = m.tried;
        waits = λ b i r p. waits_on e.server e.lower d d' u job.number b r f (far u job b is (m.waits b i r p).waiting) (m.waits b i r p);
        apart = m.apart;
        deferred = m.deferred;
        timer = λ i p. (let q = m.timer i p in (subst (λ (h : ℕ → Option ℕ). h i ≡ Some u) (sym timers) q.0, (q.1.0, f.dues i u q.1.0 q.0 q.1.1)));
        armed = m.armed;
      })

  -- One that gave its result owes nothing.
  pub none_dropped : (over : ℕ) (e : Begun g) (es : List (Begun g)) (d : Desk g) → e.response ≡ None → AreKept g over (e ∷ es) d → AreKept g over es d
  none_dropped over e es d none k = record {
    kept = k.kept;
    named = λ s i n lt is. elim (k.named s i n lt is) [ inl m ↦ inl m | inr o ↦ inr (o.0, behind s i n o.1) ];
    held = k.held;
    timers = k.timers;
    apart = k.apart;
  }
    where
      behind : (s i n : ℕ) → IsOwed g n (e ∷ es) s i → IsOwed g n es s i
      behind s i n o = elim o.is [
        | inl same ↦ absurd (none_is (e.response) o.response none (subst (λ (b : Begun g). b.response ≡ Some o.response) (sym same) o.to_come))
        | inr m ↦ record { entry = o.entry; is = m; server = o.server; lower = o.lower; response = o.response; to_come = o.to_come }
      ]
