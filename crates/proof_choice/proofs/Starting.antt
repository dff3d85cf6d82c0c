-- A request is started at the next server.
use Rattle.std.proofs.Common.{◌≡◌, ℕ, suc, ◌+◌, ◌<◌, ◌≤◌, ◌⊎◌, inl, inr, Bool, true, false, if◌then◌else◌, ◌==◌, List, [], ◌∷◌, length, Option, Some, None, slice_get, refl, sym, ap, subst, ◌∙◌, arith, le_refl}
use Rattle.std.proofs.lemmas.Bool.Decides.{nat_tests}
use Rattle.std.specs.Prelude.{option_map}
use Rattle.client_request.specs.Numbered.{entry_at, puts}
use Rattle.client_request.specs.Request.{Request}
use Rattle.client_request.specs.Timers.{with_timer, can_draw}
use Rattle.client_request.specs.View.{View, sets_timer}
use Rattle.client_choice.specs.Choice.{Choice, arms}
use Rattle.client_choice.specs.Servers.{Server}
use Rattle.client_choice.specs.declared.job.ListedServer.{ListedServer}
use Rattle.right_trace.specs.Updates.{with_at}
use Rattle.proof_parts.specs.Lines.{Sorted}
use Rattle.proof_parts.specs.PartTie.{Phase, Leads as IfLeft}
use Rattle.proof_parts.specs.Sights.{sight, due_of}
use Rattle.proof_parts.proofs.GoingOn.{fair_set, dues_set, none_next}
use Rattle.proof_parts.proofs.Keys.{with_here, with_there, is_or_was}
use Rattle.proof_parts.proofs.Tables.{at_puts, sorted_puts, rises_below}
use Rattle.proof_choice.specs.Choosing.{Choosing}
use Rattle.proof_choice.specs.Servers.{State}
use Rattle.proof_parts.specs.WholeTie.{Follows}
use Rattle.proof_choice.specs.Requests.{Beside, Work, Begun, Desk, IsKept, desk_of, Stands, IsAside}
use Rattle.proof_choice.proofs.AtServer.{both_are, none_is}
use Rattle.proof_choice.proofs.Changing.{Changes, changed}
use Rattle.proof_choice.proofs.Disarming.{again_path}
use Rattle.proof_choice.proofs.ServerCalls.{in_conf}

up_one : (n : ℕ) → n ≤ n + 1
up_one n = omega arith

one_less : (i n : ℕ) → i < n → i < n + 1
one_less i n lt = omega arith

not_below : (n : ℕ) → n < n → ⊥
not_below n lt = omega arith

pub sorted_more : {A : Type 0} (k : ℕ) (v : A) (es : List (ℕ × A)) → (hi : ℕ) × Sorted 0 hi es → (hi : ℕ) × Sorted 0 hi (puts k v es)
sorted_more k v es s = (s.0 + suc k, sorted_puts k v 0 (s.0 + suc k) es (none_below k) (past s.0 k) (rises_below _ 0 s.0 (s.0 + suc k) es (less s.0 k) s.1))
  where
    none_below : (k : ℕ) → 0 ≤ k
    none_below k = omega arith

    past : (h k : ℕ) → k < h + suc k
    past h k = omega arith

    less : (h k : ℕ) → h ≤ h + suc k
    less h k = omega arith

module _ (g : Choosing) (beside : Beside) (phase : ℕ → Phase) (current : ℕ) where
  -- the view of another request's outs, or another board
  pub stands_for : (jobs : ℕ → Option (Work g)) (named : ℕ → ℕ → Option ℕ) (over : ℕ) (dropping : List (Begun g)) (c : Choice Request g.U g.R) (v w : View) (x : State g) → w.now ≡ v.now → w.timers ≡ v.timers → w.ticket ≡ v.ticket → w.place ≡ v.place → w.words ≡ v.words → Stands g beside phase current jobs named over dropping c v x → Stands g beside phase current jobs named over dropping c w x
  stands_for jobs named over dropping c v w x now timers ticket place words st =
      subst (λ n. Stands g beside phase current jobs named over dropping c (record w { now = n }) x) (sym now)
      (subst (λ n. Stands g beside phase current jobs named over dropping c (record w { now = v.now; timers = n }) x) (sym timers)
      (subst (λ n. Stands g beside phase current jobs named over dropping c (record w { now = v.now; timers = v.timers; ticket = n }) x) (sym ticket)
      (subst (λ n. Stands g beside phase current jobs named over dropping c (record w { now = v.now; timers = v.timers; ticket = v.ticket; place = n }) x) (sym place)
      (subst (λ n. Stands g beside phase current jobs named over dropping c (record w { now = v.now; timers = v.timers; ticket = v.ticket; place = v.place; words = n }) x) (sym words)
      (record {
        servers = record { count = st.servers.count; tied = st.servers.tied; apart = st.servers.apart; fair = record { order = st.servers.fair.order; words = st.servers.fair.words }; place = st.servers.place; places = st.servers.places };
        quiet = st.quiet;
        is_named = st.is_named;
        still = st.still;
        less = st.less;
        kept = st.kept;
        foreign = st.foreign;
        timers = st.timers;
        calm = st.calm;
        is_open = st.is_open;
        drawn = st.drawn;
        due = st.due;
        own = st.own;
        far = st.far;
      })))))

  module _ (named : ℕ → ℕ → Option ℕ) where
    -- What the timer leaves that starts the next server.
    pub record IsArmed (t : ℕ) (job : Work g) (tab : ℕ → Option (Work g)) (c : Choice Request g.U g.R) (v : View) (x : State g) (y : Work g × List (ℕ × ℕ)) (w : View) : Type 0 where
      pub job' : Work g
      pub is : y.0 ≡ job'
      pub left : job'.left ≡ job.left
      pub started : job'.started ≡ job.started
      pub number : job'.number ≡ job.number
      pub request : job'.request ≡ job.request
      pub stands : Stands g beside phase current (with_at t (Some y.0) tab) named 0 [] (record c { timers = y.1 }) w x
      pub follows : Follows v w
      pub outs : w.outs ≡ v.outs
      pub board : w.board ≡ v.board
      pub more : w.more ≡ v.more

    module _ (t due : ℕ) (job : Work g) (tab : ℕ → Option (Work g)) (c : Choice Request g.U g.R) (v : View) (x : State g) (calm : job.timer ≡ None) (some : job.left ≡ [] → ⊥) (is_aside : IsAside g current job) (late : v.now ≤ due) (st : Stands g beside phase current (with_at t (Some job) tab) named 0 [] c v x) where
      abbrev armed_job : Work g
      armed_job = record job { timer = Some v.timers.next }

      abbrev timed : View
      timed = record v { timers = with_timer due v.timers }

      abbrev with_one : Choice Request g.U g.R
      with_one = record c { timers = puts v.timers.next t c.timers }

      abbrev before : Desk g
      before = desk_of g (with_at t (Some job) tab) named c v x

      abbrev after : Desk g
      after = desk_of g (with_at t (Some armed_job) tab) named with_one timed x

      at_t : with_at t (Some job) tab t ≡ Some job
      at_t = with_here t (Some job) tab

      here : IsKept g before t job
      here = st.kept.kept t job at_t

      -- what is set is not the next timer
      not_next : (i m : ℕ) → due_of i v.timers.set ≡ Some m → v.timers.next ≡ i → ⊥
      not_next i m is same = none_is (due_of i v.timers.set) m (none_next v i st.servers.fair (subst (λ n. v.timers.next ≤ n) same (le_refl v.timers.next))) is

      still : (i m : ℕ) → due_of i v.timers.set ≡ Some m → due_of i timed.timers.set ≡ Some m
      still i m is = dues_set v due i st.servers.fair ∙ (with_there v.timers.next (Some due) (λ (j : ℕ). due_of j v.timers.set) i (not_next i m is) ∙ is)

      not_owned : (q : ℕ) (e : Server g.U) → slice_get c.servers q ≡ Some e → g.Owns e.upstream v.timers.next → ⊥
      not_owned q e is o =
          let m = (g.tie q (in_conf g phase c.servers v x q e st.servers is)).set (phase q) e.upstream (sight v) (x.ups q) v.timers.next (st.servers.tied q e is) o in
          not_next v.timers.next m.0 m.1 refl

      timer_due : (i u : ℕ) → entry_at i c.timers ≡ Some u → (m : ℕ) × (due_of i v.timers.set ≡ Some m)
      timer_due i u is = (let m = st.kept.timers i u is in ((st.kept.kept u m.0 m.1).timer i m.2).1)

      timers_on : (i u : ℕ) → entry_at i c.timers ≡ Some u → entry_at i (puts v.timers.next t c.timers) ≡ Some u
      timers_on i u is = (let m = timer_due i u is in at_puts v.timers.next t i c.timers ∙ (with_there v.timers.next (Some t) (λ (j : ℕ). entry_at j c.timers) i (not_next i m.0 m.1) ∙ is))

      timers_then : (i u : ℕ) → entry_at i (puts v.timers.next t c.timers) ≡ Some u → ((v.timers.next ≡ i) × (Some t ≡ Some u)) ⊎ ((v.timers.next ≡ i → ⊥) × (entry_at i c.timers ≡ Some u))
      timers_then i u is = is_or_was v.timers.next (Some t) (λ (j : ℕ). entry_at j c.timers) i u (sym (at_puts v.timers.next t i c.timers) ∙ is)

      some_is : (a b : ℕ) → Some a ≡ Some b → a ≡ b
      some_is a b e = cc

      changes : Changes g t job armed_job before after
      changes = record {
        jobs = sym (again_path t (Some armed_job) (Some job) tab);
        is = at_t;
        number = refl;
        here = record {
          ask = here.ask;
          is = here.is;
          request = here.request;
          octets = here.octets;
          left = here.left;
          all = here.all;
          tried = here.tried;
          waits = λ b p r q. (let w = here.waits b p r q in record { within = w.within; fits = w.fits; ticket = w.ticket; waiting = w.waiting; named = w.named });
          apart = here.apart;
          deferred = here.deferred;
          timer = λ i p. (let e = some_is v.timers.next i p in subst (λ i. (entry_at i (puts v.timers.next t c.timers) ≡ Some t) × ((m : ℕ) × (due_of i timed.timers.set ≡ Some m))) e
              (at_puts v.timers.next t v.timers.next c.timers ∙ with_here v.timers.next (Some t) (λ (j : ℕ). entry_at j c.timers), (due, dues_set v due v.timers.next st.servers.fair ∙ with_here v.timers.next (Some due) (λ (j : ℕ). due_of j v.timers.set))));
          armed = λ p. absurd (some p);
        };
        others = λ u other ne is m. record {
          ask = m.ask;
          is = m.is;
          request = m.request;
          octets = m.octets;
          left = m.left;
          all = m.all;
          tried = m.tried;
          waits = λ b p r q. (let w = m.waits b p r q in record { within = w.within; fits = w.fits; ticket = w.ticket; waiting = w.waiting; named = w.named });
          apart = m.apart;
          deferred = m.deferred;
          timer = λ i p. (let q = m.timer i p in (timers_on i u q.0, (q.1.0, still i q.1.0 q.1.1)));
          armed = m.armed;
        };
        owed = λ s i k lt is. inl (is, λ o. record { entry = o.entry; is = o.is; server = o.server; lower = o.lower; response = o.response; to_come = o.to_come });
        held = λ k a is. (a, is);
        timers = λ i u is. elim (timers_then i u is) [
          | inl p ↦ inr (some_is t u p.1, ap (λ i. Some i) p.0)
          | inr p ↦ inl (λ same. (let m = st.kept.timers i u p.1 in none_is job.timer i calm (ap (λ (w : Work g). w.timer) (both_are (with_at t (Some job) tab u) job m.0 (subst (λ u. with_at t (Some job) tab u ≡ Some job) same at_t) m.1) ∙ m.2)), p.1)
        ];
      }

      there : (u : ℕ) (other : Work g) → (t ≡ u → ⊥) → tab u ≡ Some other → with_at t (Some job) tab u ≡ Some other
      there u other ne is = with_there t (Some job) tab u ne ∙ is

      -- a timer of a request was set before
      set_before : (u : ℕ) (other : Work g) (i m : ℕ) → with_at t (Some job) tab u ≡ Some other → other.timer ≡ Some i → due_of i timed.timers.set ≡ Some m → due_of i v.timers.set ≡ Some m
      set_before u other i m is timer set =
          (let e = ((st.kept.kept u other is).timer i timer).1 in
          sym (with_there v.timers.next (Some due) (λ (j : ℕ). due_of j v.timers.set) i (not_next i e.0 e.1)) ∙ (sym (dues_set v due i st.servers.fair) ∙ set))

      pub armed_stands : Stands g beside phase current (with_at t (Some armed_job) tab) named 0 [] with_one timed x
      armed_stands = record {
        servers = record {
          count = st.servers.count;
          tied = λ q e is. (g.tie q (in_conf g phase c.servers v x q e st.servers is)).same (phase q) e.upstream (sight v) (sight timed) (x.ups q) (st.servers.tied q e is) refl
              (λ j o. dues_set v due j st.servers.fair ∙ with_there v.timers.next (Some due) (λ (j : ℕ). due_of j v.timers.set) j (λ same. not_owned q e is (subst (λ j. g.Owns e.upstream j) (sym same) o)))
              (up_one v.timers.next) (le_refl v.ticket) (le_refl v.place);
          apart = st.servers.apart;
          fair = fair_set v due st.servers.fair;
          place = st.servers.place;
          places = st.servers.places;
        };
        quiet = st.quiet;
        is_named = st.is_named;
        still = st.still;
        less = st.less;
        kept = changed g t job armed_job 0 before after changes st.kept;
        foreign = λ i u q e is found o. elim (timers_then i u is) [ inl p ↦ not_owned q e found (subst (λ i. g.Owns e.upstream i) (sym p.0) o) | inr p ↦ st.foreign i u q e p.1 found o ];
        timers = sorted_more v.timers.next t c.timers st.timers;
        calm = λ at frames told u other i m is timer set late. elim (is_or_was t (Some armed_job) tab u other is) [
          | inl p ↦ subst (λ j. IsAside g current j) (both_are (Some armed_job) armed_job other refl p.1) (record { aside = is_aside.aside; clear = is_aside.clear })
          | inr p ↦ st.calm at frames told u other i m (there u other p.0 p.1) timer (set_before u other i m (there u other p.0 p.1) timer set) late
        ];
        is_open = st.is_open;
        drawn = λ i are. one_less i v.timers.next (st.drawn i are);
        due = λ i m are is. still i m (st.due i m are is);
        own = λ i u are there. elim (timers_then i u there) [ inl p ↦ not_below i (subst (λ n. i < n) p.0 (st.drawn i are)) | inr p ↦ st.own i u are p.1 ];
        far = st.far;
      }

      timed_follows : Follows v timed
      timed_follows = record {
        fair = fair_set v due st.servers.fair;
        now = refl;
        timer = up_one v.timers.next;
        ticket = le_refl v.ticket;
        place = le_refl v.place;
        later = λ i m is. elim (is_or_was v.timers.next (Some due) (λ (j : ℕ). due_of j v.timers.set) i m (sym (dues_set v due i st.servers.fair) ∙ is)) [
          | inl p ↦ inr (subst (λ m. v.now ≤ m) (some_is due m p.1) late, subst (λ n. v.timers.next ≤ n) p.0 (le_refl v.timers.next))
          | inr p ↦ inl p.1
        ];
      }

    -- The timer is set, if a server is left.
    pub arms_do : (t due : ℕ) (job : Work g) (tab : ℕ → Option (Work g)) (c : Choice Request g.U g.R) (v : View) (x : State g) → job.timer ≡ None → IsAside g current job → v.now ≤ due → Stands g beside phase current (with_at t (Some job) tab) named 0 [] c v x
        → IfLeft (IsArmed t job tab c v x) (arms t due job c.timers v)
    arms_do t due job tab c v x calm is_aside late st = by job.left refl
      where
        as_it_is : IsArmed t job tab c v x (job, c.timers) v
        as_it_is = record {
          job' = job;
          is = refl;
          left = refl;
          started = refl;
          number = refl;
          request = refl;
          stands = st;
          follows = record { fair = st.servers.fair; now = refl; timer = le_refl v.timers.next; ticket = le_refl v.ticket; place = le_refl v.place; later = λ i due is. inl is };
          outs = refl;
          board = refl;
          more = refl;
        }

        not_empty : (e : ListedServer) (es : List ListedServer) → job.left ≡ e ∷ es → job.left ≡ [] → ⊥
        not_empty e es p q = cc

        by : (l : List ListedServer) → job.left ≡ l → IfLeft (IsArmed t job tab c v x) (if length l == 0 then Some ((job, c.timers), v)
            else option_map (λ w. ((record job { timer = Some v.timers.next }, puts v.timers.next t c.timers), w)) (sets_timer due v))
        by [] is = as_it_is
        by (e ∷ es) is = on (can_draw v.timers.next)
          where
            on : (b : Bool) → IfLeft (IsArmed t job tab c v x) (if length (e ∷ es) == 0 then Some ((job, c.timers), v)
                else option_map (λ w. ((record job { timer = Some v.timers.next }, puts v.timers.next t c.timers), w)) (if b then Some (record v { timers = with_timer due v.timers }) else None))
            on b = skip (length (e ∷ es) == 0) (none_of (length es)) b
              where
                none_of : (n : ℕ) → (suc n == 0) ≡ false
                none_of n = grind (arith, nat_tests)

                skip : (z : Bool) → z ≡ false → (b : Bool) → IfLeft (IsArmed t job tab c v x) (if z then Some ((job, c.timers), v)
                    else option_map (λ w. ((record job { timer = Some v.timers.next }, puts v.timers.next t c.timers), w)) (if b then Some (record v { timers = with_timer due v.timers }) else None))
                skip true q b = absurd (cc)
                skip false q false = tt
                skip false q true = record {
                  job' = record job { timer = Some v.timers.next };
                  is = refl;
                  left = refl;
                  started = refl;
                  number = refl;
                  request = refl;
                  stands = armed_stands t due job tab c v x calm (not_empty e es is) is_aside late st;
                  follows = timed_follows t due job tab c v x calm (not_empty e es is) is_aside late st;
                  outs = refl;
                  board = refl;
                  more = refl;
                }
