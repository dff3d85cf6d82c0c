-- What stands while a timer of the choice goes, while servers are judged, and while nothing is changed that is looked at.
use Rattle.std.proofs.Common.{◌≡◌, ℕ, ◌-◌, ◌==◌, inl, List, [], ◌∷◌, Option, Some, None, slice_get, refl, sym, ap, subst, ◌∙◌, le_refl}
use mathlib.Core.Path.{fun_ext}
use Rattle.std.specs.Prelude.{set}
use Rattle.client_request.specs.Numbered.{entry_at, frees}
use Rattle.client_request.specs.Request.{Request}
use Rattle.client_request.specs.Timers.{cancelled}
use Rattle.client_request.specs.View.{View}
use Rattle.client_choice.specs.Choice.{Choice, stopped, unarmed, disarmed, judges_each}
use Rattle.client_choice.specs.Servers.{Server, owner, owner_at, judges, judges_found, judged}
use Rattle.right_trace.specs.Updates.{with_at}
use Rattle.proof_parts.specs.Lines.{Sorted}
use Rattle.proof_parts.specs.PartTie.{Phase, GoesOn}
use Rattle.proof_parts.specs.Sights.{sight, due_of, IsFair}
use Rattle.proof_parts.proofs.GoingOn.{goes_nowhere, goes_without, fair_without, dues_without}
use Rattle.proof_parts.proofs.Keys.{each_number, with_here, with_there, with_again, was_there}
use Rattle.proof_parts.proofs.Tables.{at_frees, sorted_frees}
use Rattle.proof_choice.specs.Choosing.{Choosing}
use Rattle.proof_choice.specs.Servers.{State, Listed, AreTied}
use Rattle.proof_choice.specs.Requests.{Beside, Work, Begun, Desk, IsKept, AreKept, desk_of, Stands}
use Rattle.proof_choice.proofs.Asides.{calm_aside}
use Rattle.proof_choice.proofs.AtServer.{both_are, set_length}
use Rattle.client_choice.proofs.At.{set_here, set_there}
use Rattle.proof_choice.proofs.Changing.{Changes, changed}
use Rattle.proof_choice.proofs.ServerCalls.{in_conf}

pub goes_stopped : (o : Option ℕ) (v : View) → IsFair v → GoesOn v (stopped o v)
goes_stopped None v fair = goes_nowhere v fair
goes_stopped (Some i) v fair = goes_without v i fair

pub again_path : {V : Type 0} (t : ℕ) (a b : Option V) (f : ℕ → Option V) → with_at t a (with_at t b f) ≡ with_at t a f
again_path t a b f = fun_ext (λ j. with_again t a b f j)

module _ (g : Choosing) where
  -- without a timer that no server owns
  pub tied_without : (phase : ℕ → Phase) (servers : Listed g) (v : View) (x : State g) (i : ℕ) → ((s : ℕ) (a : Server g.U) → slice_get servers s ≡ Some a → g.Owns a.upstream i → ⊥) → AreTied g phase servers v x → AreTied g phase servers (record v { timers = cancelled i v.timers }) x
  tied_without phase servers v x i none t = record {
    count = t.count;
    tied = λ q e is. (g.tie q (in_conf g phase servers v x q e t is)).same (phase q) e.upstream (sight v) (sight (record v { timers = cancelled i v.timers })) (x.ups q) (t.tied q e is) refl
        (λ j o. dues_without v i j t.fair ∙ with_there i None (λ (j : ℕ). due_of j v.timers.set) j (λ same. none q e is (subst (λ j. g.Owns e.upstream j) (sym same) o)))
        (le_refl v.timers.next) (le_refl v.ticket) (le_refl v.place);
    apart = t.apart;
    fair = fair_without v i t.fair;
    place = t.place;
    places = t.places;
  }

  module _ (beside : Beside) (phase : ℕ → Phase) (current : ℕ) (named : ℕ → ℕ → Option ℕ) (over : ℕ) where
    -- The timer of the request in hand goes, if there is one.
    pub disarms : (t : ℕ) (job : Work g) (tab : ℕ → Option (Work g)) (c : Choice Request g.U g.R) (v : View) (x : State g) → Stands g beside phase current (with_at t (Some job) tab) named over [] c v x
        → Stands g beside phase current (with_at t (Some (disarmed job)) tab) named over [] (unarmed job.timer c) (stopped job.timer v) x
    disarms t job tab c v x st = by job.timer refl
      where
        by : (o : Option ℕ) → job.timer ≡ o → Stands g beside phase current (with_at t (Some (disarmed job)) tab) named over [] (unarmed o c) (stopped o v) x
        by None e = subst (λ o. Stands g beside phase current (with_at t (Some (record job { timer = o })) tab) named over [] c v x) e st
        by (Some i) e = record {
          servers = tied_without phase c.servers v x i (λ s a at own. st.foreign i t s a mine.0 at own) st.servers;
          quiet = st.quiet;
          is_named = st.is_named;
          still = st.still;
          less = st.less;
          kept = changed g t job (disarmed job) over (desk_of g (with_at t (Some job) tab) named c v x) d' changes st.kept;
          foreign = λ j u s a is at own. st.foreign j u s a (was j u is).1 at own;
          timers = (st.timers.0, sorted_frees i 0 st.timers.0 c.timers st.timers.1);
          calm = λ at frames told u other j due is timer set late. calm_aside g current t job (disarmed job) tab v refl (st.calm at frames told) u other j due is timer
              (was_there i (λ (j : ℕ). due_of j v.timers.set) j due (sym (dues_without v i j st.servers.fair) ∙ set)).1 late;
          is_open = st.is_open;
          drawn = st.drawn;
          due = λ j m are is. dues_without v i j st.servers.fair ∙ (with_there i None (λ (j : ℕ). due_of j v.timers.set) j (λ same. st.own j t are (subst (λ j. entry_at j c.timers ≡ Some t) same mine.0)) ∙ st.due j m are is);
          own = λ j u are there. st.own j u are (was j u there).1;
          far = st.far;
        }
          where
            c' : Choice Request g.U g.R
            c' = record c { timers = frees i c.timers }

            v' : View
            v' = record v { timers = cancelled i v.timers }

            d' : Desk g
            d' = desk_of g (with_at t (Some (disarmed job)) tab) named c' v' x

            at_t : with_at t (Some job) tab t ≡ Some job
            at_t = with_here t (Some job) tab

            here : IsKept g (desk_of g (with_at t (Some job) tab) named c v x) t job
            here = st.kept.kept t job at_t

            mine : (entry_at i c.timers ≡ Some t) × ((due : ℕ) × (due_of i v.timers.set ≡ Some due))
            mine = here.timer i e

            was : (j u : ℕ) → entry_at j (frees i c.timers) ≡ Some u → (i ≡ j → ⊥) × (entry_at j c.timers ≡ Some u)
            was j u is = was_there i (λ (j : ℕ). entry_at j c.timers) j u (sym (at_frees i j 0 st.timers.0 c.timers st.timers.1) ∙ is)

            keeps : (u : ℕ) (other : Work g) → ((j : ℕ) → other.timer ≡ Some j → i ≡ j → ⊥) → IsKept g (desk_of g (with_at t (Some job) tab) named c v x) u other → IsKept g d' u other
            keeps u other ne m = record {
              ask = m.ask;
              is = m.is;
              request = m.request;
              octets = m.octets;
              left = m.left;
              all = m.all;
              tried = m.tried;
              waits = λ b p r q. (let w = m.waits b p r q in record { within = w.within; fits = w.fits; ticket = w.ticket; waiting = w.waiting; named = w.named });
              apart = m.apart;
              deferred = m.deferred;
              timer = λ j p. (let q = m.timer j p in (
                at_frees i j 0 st.timers.0 c.timers st.timers.1 ∙ (with_there i None (λ (j : ℕ). entry_at j c.timers) j (ne j p) ∙ q.0),
                (q.1.0, dues_without v i j st.servers.fair ∙ (with_there i None (λ (j : ℕ). due_of j v.timers.set) j (ne j p) ∙ q.1.1)),
              ));
              armed = m.armed;
            }

            changes : Changes g t job (disarmed job) (desk_of g (with_at t (Some job) tab) named c v x) d'
            changes = record {
              jobs = sym (again_path t (Some (disarmed job)) (Some job) tab);
              is = at_t;
              number = refl;
              here = record {
                ask = here.ask;
                is = here.is;
                request = here.request;
                octets = here.octets;
                left = here.left;
                all = here.all;
                tried = here.tried;
                waits = λ b p r q. (let w = here.waits b p r q in record { within = w.within; fits = w.fits; ticket = w.ticket; waiting = w.waiting; named = w.named });
                apart = here.apart;
                deferred = here.deferred;
                timer = λ j p. absurd (cc);
                armed = λ p. refl;
              };
              others = λ u other ne is m. keeps u other (λ j p same. ne (both_are (entry_at j c.timers) t u (subst (λ j. entry_at j c.timers ≡ Some t) same mine.0) (m.timer j p).0)) m;
              owed = λ s i k lt is. inl (is, λ o. record { entry = o.entry; is = o.is; server = o.server; lower = o.lower; response = o.response; to_come = o.to_come });
              held = λ k a is. (a, is);
              timers = λ j u is. (let w = was j u is in inl (λ same. absurd (w.0 (other_timer j u same w.1)), w.1));
            }
              where
                other_timer : (j u : ℕ) → t ≡ u → entry_at j c.timers ≡ Some u → i ≡ j
                other_timer j u same is =
                    let m = st.kept.timers j u is in
                    some_is i j (sym e ∙ (ap (λ (w : Work g). w.timer) (both_are (with_at t (Some job) tab u) job m.0 (subst (λ u. with_at t (Some job) tab u ≡ Some job) same at_t) m.1) ∙ m.2))
                  where
                    some_is : (a b : ℕ) → Some a ≡ Some b → a ≡ b
                    some_is a b e = cc

    -- one server is another record, of the same transport, with the same tickets
    pub stands_set : (jobs : ℕ → Option (Work g)) (dropping : List (Begun g)) (c : Choice Request g.U g.R) (v : View) (x : State g) (s : ℕ) (a b : Server g.U) → slice_get c.servers s ≡ Some a → b.upstream ≡ a.upstream → b.waiting ≡ a.waiting → b.posted ≡ a.posted
        → Stands g beside phase current jobs named over dropping c v x → Stands g beside phase current jobs named over dropping (record c { servers = set c.servers s b }) v x
    stands_set jobs dropping c v x s a b at up waiting posted st = record {
      servers = record {
        count = set_length c.servers s b ∙ st.servers.count;
        tied = λ q e is. (let w = was q e is in subst (λ u. g.Tied q (phase q) u (sight v) (x.ups q)) (sym w.2) (st.servers.tied q w.0 w.1));
        apart = λ q r i e f is it o p. (let w = was q e is in let z = was r f it in st.servers.apart q r i w.0 z.0 w.1 z.1 (subst (λ u. g.Owns u i) w.2 o) (subst (λ u. g.Owns u i) z.2 p));
        fair = st.servers.fair;
        place = st.servers.place;
        places = st.servers.places;
      };
      quiet = λ q e is. (let w = was q e is in let m = st.quiet q w.0 w.1 in (w.4 ∙ m.0, (m.1.0, subst (λ (ws : List (ℕ × ℕ)). Sorted 0 m.1.0 ws) (sym w.3) m.1.1)));
      is_named = λ q e is other i. (let w = was q e is in st.is_named q w.0 w.1 other i ∙ ap (λ u. g.names u i) (sym w.2));
      still = λ e is i. (let w = was current e is in ap (λ u. g.names u i) w.2 ∙ st.still w.0 w.1 i);
      less = st.less;
      kept = subst (λ (o : ℕ → ℕ → Option ℕ). AreKept g over dropping (record (desk_of g jobs named c v x) { waiting = o })) (fun_ext (λ q. fun_ext (λ i. same_owner q i))) st.kept;
      foreign = λ i t q e is found o. (let w = was q e found in st.foreign i t q w.0 is w.1 (subst (λ u. g.Owns u i) w.2 o));
      timers = st.timers;
      calm = st.calm;
      is_open = st.is_open;
      drawn = st.drawn;
      due = st.due;
      own = st.own;
      far = λ i q e are found o. (let w = was q e found in st.far i q w.0 are w.1 (subst (λ u. g.Owns u i) w.2 o));
    }
      where
        was : (q : ℕ) (e : Server g.U) → slice_get (set c.servers s b) q ≡ Some e → (f : Server g.U) × (slice_get c.servers q ≡ Some f) × (e.upstream ≡ f.upstream) × (e.waiting ≡ f.waiting) × (e.posted ≡ f.posted)
        was q e is = each_number (λ q. slice_get (set c.servers s b) q ≡ Some e → (f : Server g.U) × (slice_get c.servers q ≡ Some f) × (e.upstream ≡ f.upstream) × (e.waiting ≡ f.waiting) × (e.posted ≡ f.posted)) s
            (λ is. (let p = both_are (slice_get (set c.servers s b) s) b e (set_here c.servers s a b at) is in
            (a, at, ap (λ (e : Server g.U). e.upstream) (sym p) ∙ up, ap (λ (e : Server g.U). e.waiting) (sym p) ∙ waiting, ap (λ (e : Server g.U). e.posted) (sym p) ∙ posted)))
            (λ q ne is. (e, sym (set_there c.servers s q b ne) ∙ is, refl, refl, refl)) q is

        same_owner : (q i : ℕ) → owner q i c.servers ≡ owner q i (set c.servers s b)
        same_owner q i = each_number (λ q. owner q i c.servers ≡ owner q i (set c.servers s b)) s
            (ap (λ o. owner_at i o) at ∙ (ap (λ (ws : List (ℕ × ℕ)). entry_at i ws) (sym waiting) ∙ sym (ap (λ o. owner_at i o) (set_here c.servers s a b at))))
            (λ q ne. ap (λ o. owner_at i o) (sym (set_there c.servers s q b ne))) q

    -- servers are judged
    pub stands_judged : (jobs : ℕ → Option (Work g)) (dropping : List (Begun g)) (c : Choice Request g.U g.R) (v : View) (x : State g) (giver now : ℕ) (es : List (Begun g))
        → Stands g beside phase current jobs named over dropping c v x → Stands g beside phase current jobs named over dropping (record c { servers = judges_each giver now es c.servers }) v x
    stands_judged jobs dropping c v x giver now [] st = st
    stands_judged jobs dropping c v x giver now (e ∷ es) st =
        stands_judged jobs dropping (record c { servers = judges e.server (e.server == giver) (now - e.since) c.servers }) v x giver now es (by (slice_get c.servers e.server) refl)
      where
        by : (o : Option (Server g.U)) → slice_get c.servers e.server ≡ o → Stands g beside phase current jobs named over dropping (record c { servers = judges_found e.server (e.server == giver) (now - e.since) c.servers o }) v x
        by None is = st
        by (Some a) is = stands_set jobs dropping c v x e.server a (judged (e.server == giver) (now - e.since) a) is refl refl refl st
