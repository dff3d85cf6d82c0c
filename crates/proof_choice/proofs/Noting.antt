-- What agrees of the requests stays so while one is started at one more server.
use Rattle.std.proofs.Common.{◌≡◌, ℕ, ◌⊎◌, inl, inr, Bool, true, false, ◌==◌, ◌||◌, List, [], ◌∷◌, ◌++◌, length, Option, Some, None, refl, sym, ap, subst, subst₂, ◌∙◌, arith}
use Rattle.std.proofs.lemmas.Bool.Decides.{nat_tests}
use Rattle.client_choice.specs.declared.job.ListedServer.{ListedServer}
use Rattle.client_choice.specs.declared.job.Started.{Started}
use Rattle.right_trace.specs.Parts.{IsIn}
use Rattle.proof_right.specs.machine.Client.{Waiting, handing, best}
use Rattle.proof_parts.specs.Chains.{part_of}
use Rattle.std.specs.Prelude.{option_map}
use Rattle.right_trace.specs.Updates.{with_at}
use Rattle.proof_parts.proofs.Keys.{each_number, with_here, with_there, is_or_was}
use Rattle.proof_choice.specs.Choosing.{Choosing}
use Rattle.proof_choice.specs.Requests.{Work, Begun, Desk, Waits, IsKept, IsOwed, AreKept, AreApart, IsToStart, AreToStart}
use Rattle.proof_choice.proofs.AtServer.{both_are, none_is}
use Rattle.proof_choice.proofs.Changing.{Changes, changed}
use Rattle.proof_choice.proofs.Keeping.{Differ}

or_true : (b c : Bool) → c ≡ true → (b || c) ≡ true
or_true true c e = refl
or_true false c e = e

it_is : (s q : ℕ) (c : Bool) → s ≡ q → ((s == q) || c) ≡ true
it_is s q c e = grind (arith, nat_tests)

not_both : (b : Bool) → b ≡ true → b ≡ false → ⊥
not_both b p q = cc

module _ {A : Type 0} where
  pub in_front : (x : A) (xs ys : List A) → IsIn x xs → IsIn x (xs ++ ys)
  in_front x [] ys m = absurd m
  in_front x (y ∷ xs) ys m = elim m [ inl e ↦ inl e | inr n ↦ inr (in_front x xs ys n) ]

  pub at_end : (x : A) (xs : List A) → IsIn x (xs ++ x ∷ [])
  at_end x [] = inl refl
  at_end x (y ∷ xs) = inr (at_end x xs)

  pub front_or_end : (x y : A) (xs : List A) → IsIn x (xs ++ y ∷ []) → IsIn x xs ⊎ (y ≡ x)
  front_or_end x y [] m = elim m [ inl e ↦ inr e | inr n ↦ absurd n ]
  front_or_end x y (z ∷ xs) m = elim m [ inl e ↦ inl (inl e) | inr n ↦ elim (front_or_end x y xs n) [ inl p ↦ inl (inr p) | inr e ↦ inr e ] ]

apart_more : {P : Type 0} (es : List (Started P)) (b : Started P) → AreApart es → ((e : Started P) → IsIn e es → e.server ≡ b.server → ⊥) → AreApart (es ++ b ∷ [])
apart_more [] b apart new = (λ f m. absurd m, tt)
apart_more (e ∷ es) b apart new = (λ f m. elim (front_or_end f b es m) [ inl n ↦ apart.0 f n | inr same ↦ λ p. new e (inl refl) (p ∙ ap (λ (f : Started _). f.server) (sym same)) ], apart_more es b apart.1 (λ f m. new f (inr m)))

module _ (g : Choosing) where
  -- the request, started at one more server
  abbrev pub noting : Work g → List ListedServer → Begun g → Work g
  noting job es b = record job { left = es; started = job.started ++ b ∷ [] }

  -- Of d and d', the request of ticket t was started at one more server, which is the next one.
  pub record Notes (t : ℕ) (job : Work g) (f : ListedServer) (es : List ListedServer) (b : Begun g) (ask : Waiting) (d d' : Desk g) : Type 0 where
    pub jobs : d'.jobs ≡ with_at t (Some (noting job es b)) d.jobs
    pub is : d.jobs t ≡ Some job
    pub calm : job.timer ≡ None
    pub left : job.left ≡ f ∷ es
    pub server : b.server ≡ f.server
    pub held : d'.held ≡ with_at job.number (Some (handing f.server ask)) d.held
    pub asks : d.held job.number ≡ Some ask
    pub timers : d'.timers ≡ d.timers
    pub differ : Differ g b.server b.lower d d'
    pub new : d.named b.server b.lower ≡ None
    pub named : (i k : ℕ) → d'.named b.server i ≡ Some k → (d.named b.server i ≡ Some k) ⊎ ((job.number ≡ k) × (b.lower ≡ i) × ((r : g.R) × (b.response ≡ Some r)))
    pub waits : (r : g.R) → b.response ≡ Some r → Waits g d' t job.number b r

  pub noted_so : (t : ℕ) (job : Work g) (f : ListedServer) (es : List ListedServer) (b : Begun g) (ask : Waiting) (d d' : Desk g) → Notes t job f es b ask d d' → AreKept g 0 [] d → AreKept g 0 [] d'
  noted_so t job f es b ask d d' n k = changed g t job (noting job es b) 0 d d' changes k
    where
      mine : IsKept g d t job
      mine = k.kept t job n.is

      same_ask : mine.ask ≡ ask
      same_ask = both_are (d.held job.number) mine.ask ask mine.is n.asks

      line : AreToStart (length (g.c).servers) ask.tried (f ∷ es)
      line = subst₂ (λ (a : Waiting) (l : List ListedServer). AreToStart (length (g.c).servers) a.tried l) same_ask n.left mine.left

      tried_so : (e : Begun g) → IsIn e job.started → ask.tried e.server ≡ true
      tried_so e m = subst (λ (a : Waiting). a.tried e.server ≡ true) same_ask (mine.tried e m)

      apart_so : (e : Begun g) → IsIn e job.started → e.server ≡ b.server → ⊥
      apart_so e m same = not_both (ask.tried e.server) (tried_so e m) (subst (λ s. ask.tried s ≡ false) (sym (same ∙ n.server)) line.1)

      -- none waits at the new ticket yet
      elsewhere : (u k : ℕ) (e : Begun g) (r : g.R) → Waits g d u k e r → b.server ≡ e.server → b.lower ≡ e.lower → ⊥
      elsewhere u k e r w p q = none_is (d.named e.server e.lower) k (subst₂ (λ s i. d.named s i ≡ None) p q n.new) w.named

      waits_so : (u k : ℕ) (e : Begun g) (r : g.R) → Waits g d u k e r → Waits g d' u k e r
      waits_so u k e r w = record { within = w.within; fits = w.fits; ticket = w.ticket; waiting = n.differ.waiting e.server e.lower (elsewhere u k e r w) ∙ w.waiting; named = n.differ.named e.server e.lower (elsewhere u k e r w) ∙ w.named }

      timer_so : (u i : ℕ) → (d.timers i ≡ Some u) × ((due : ℕ) × (d.dues i ≡ Some due)) → (d'.timers i ≡ Some u) × ((due : ℕ) × (d'.dues i ≡ Some due))
      timer_so u i q = (subst (λ (h : ℕ → Option ℕ). h i ≡ Some u) (sym n.timers) q.0, (q.1.0, n.differ.dues i u q.1.0 q.0 q.1.1))

      all_so : (s : ℕ) → (ask.tried s ≡ true) ⊎ IsToStart s (f ∷ es) → (((f.server == s) || ask.tried s) ≡ true) ⊎ IsToStart s es
      all_so s (inl e) = inl (or_true (f.server == s) (ask.tried s) e)
      all_so s (inr m) = elim m [ inl e ↦ inl (it_is f.server s (ask.tried s) e) | inr r ↦ inr r ]

      here : IsKept g d' t (noting job es b)
      here = record {
        ask = handing f.server ask;
        is = ap (λ (h : ℕ → Option Waiting). h job.number) n.held ∙ with_here job.number (Some (handing f.server ask)) d.held;
        request = ap (λ (a : Waiting). a.request) (sym same_ask) ∙ mine.request;
        octets = mine.octets;
        left = line.2;
        all = λ s lt. all_so s (subst₂ (λ (a : Waiting) (l : List ListedServer). (a.tried s ≡ true) ⊎ IsToStart s l) same_ask n.left (mine.all s lt));
        tried = λ e m. elim (front_or_end e b job.started m) [
          | inl p ↦ or_true (f.server == e.server) (ask.tried e.server) (tried_so e p)
          | inr same ↦ it_is f.server e.server (ask.tried e.server) (sym n.server ∙ ap (λ (e : Begun g). e.server) same)
        ];
        waits = λ e m r q. elim (front_or_end e b job.started m) [
          | inl p ↦ waits_so t job.number e r (mine.waits e p r q)
          | inr same ↦ subst (λ (e : Begun g). Waits g d' t job.number e r) same (n.waits r (subst (λ (e : Begun g). e.response ≡ Some r) (sym same) q))
        ];
        apart = apart_more job.started b mine.apart apart_so;
        deferred = subst (λ (a : Waiting). job.deferred ≡ option_map part_of (best a.kept_back)) same_ask mine.deferred;
        timer = λ i p. absurd (none_is job.timer i n.calm p);
        armed = λ p. n.calm;
      }

      changes : Changes g t job (noting job es b) d d'
      changes = record {
        jobs = n.jobs;
        is = n.is;
        number = refl;
        here = here;
        others = λ u other ne is m. record {
          ask = m.ask;
          is = ap (λ (h : ℕ → Option Waiting). h other.number) n.held ∙ (with_there job.number (Some (handing f.server ask)) d.held other.number (λ same. ne (k.apart t u job other n.is is same)) ∙ m.is);
          request = m.request;
          octets = m.octets;
          left = m.left;
          all = m.all;
          tried = m.tried;
          waits = λ e p r q. waits_so u other.number e r (m.waits e p r q);
          apart = m.apart;
          deferred = m.deferred;
          timer = λ i p. timer_so u i (m.timer i p);
          armed = m.armed;
        };
        owed = λ s i j lt is. each_number (λ s. d'.named s i ≡ Some j → ((d.named s i ≡ Some j) × (IsOwed g j job.started s i → IsOwed g j (job.started ++ b ∷ []) s i)) ⊎ ((job.number ≡ j) × IsOwed g j (job.started ++ b ∷ []) s i)) b.server
            (λ is. elim (n.named i j is) [
              | inl p ↦ inl (p, λ o. more b.server i j o)
              | inr p ↦ inr (p.0, record { entry = b; is = at_end b job.started; server = refl; lower = p.1; response = p.2.0; to_come = p.2.1 })
            ])
            (λ s ne is. inl (sym (n.differ.named s i (λ same q. ne same)) ∙ is, λ o. more s i j o)) s is;
        held = λ j a is. elim (is_or_was job.number (Some (handing f.server ask)) d.held j a (sym (ap (λ (h : ℕ → Option Waiting). h j) n.held) ∙ is)) [
          | inl p ↦ (ask, subst (λ j. d.held j ≡ Some ask) p.0 n.asks)
          | inr p ↦ (a, p.1)
        ];
        timers = λ i u is. (let old = subst (λ (h : ℕ → Option ℕ). h i ≡ Some u) n.timers is in let m = k.timers i u old in
            inl (λ same. none_is job.timer i n.calm (ap (λ (w : Work g). w.timer) (both_are (d.jobs u) job m.0 (subst (λ u. d.jobs u ≡ Some job) same n.is) m.1) ∙ m.2), old));
      }
        where
          more : (s i j : ℕ) → IsOwed g j job.started s i → IsOwed g j (job.started ++ b ∷ []) s i
          more s i j o = record { entry = o.entry; is = in_front o.entry job.started (b ∷ []) o.is; server = o.server; lower = o.lower; response = o.response; to_come = o.to_come }
