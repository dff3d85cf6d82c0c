-- A result is put off: the machine keeps it back.
use Rattle.std.proofs.Common.{◌≡◌, ℕ, ◌⊎◌, inl, inr, Bool, true, false, if◌then◌else◌, List, [], ◌∷◌, ◌++◌, Option, Some, refl, sym, ap, subst, ◌∙◌}
use Rattle.client_request.specs.Board.{Part}
use Rattle.client_request.specs.Composed.{composed}
use Rattle.client_request.specs.Request.{Request}
use Rattle.client_request.specs.View.{View}
use Rattle.client_choice.specs.Choice.{Choice, ChoiceJob, put_off, is_better}
use Rattle.right_trace.specs.Validity.{waits_for_others}
use Rattle.proof_right.specs.machine.Client.{Waiting, Posted, Given, Keeps_back, keeping, unmade, with_held}
use Rattle.right_trace.specs.Updates.{with_at}
use Rattle.proof_parts.specs.Chains.{part_of}
use Rattle.proof_parts.specs.PartTie.{Phase}
use Rattle.proof_parts.proofs.Keys.{each_number, with_here, with_there, is_or_was}
use Rattle.proof_choice.specs.Choosing.{Choosing}
use Rattle.proof_parts.specs.Leading.{Leads}
use Rattle.proof_choice.specs.Servers.{State}
use Rattle.proof_choice.specs.Requests.{Beside, Work, Desk, IsKept, desk_of, Stands}
use Rattle.proof_choice.proofs.Asides.{change_aside}
use Rattle.proof_choice.proofs.AtServer.{both_are}
use Rattle.proof_choice.proofs.Changing.{Changes, changed}
use Rattle.proof_choice.proofs.Disarming.{again_path}
use Rattle.proof_choice.proofs.Keepsakes.{best_with}
use Rattle.proof_choice.proofs.Leading.{one_move}

-- with this in place of what was put off
abbrev deferring : {R P : Type 0} → Option Part → ChoiceJob R P → ChoiceJob R P
deferring d job = record job { deferred = d }

-- what is put off is the better of two
pub put_off_is : {R P : Type 0} → (part : Part) (job : ChoiceJob R P) → put_off part job ≡ deferring (if is_better job.deferred part then Some part else job.deferred) job
put_off_is part job = by (is_better job.deferred part)
  where
    by : (b : Bool) → (if b then record job { deferred = Some part } else job) ≡ deferring (if b then Some part else job.deferred) job
    by true = refl
    by false = refl

module _ (g : Choosing) (beside : Beside) (phase : ℕ → Phase) (current : ℕ) (t : ℕ) (job : Work g) (tab : ℕ → Option (Work g)) (named : ℕ → ℕ → Option ℕ) (c : Choice Request g.U g.R) (v : View) (x : State g)
    (before after : List Posted) (q : Posted) (on : x.board ≡ before ++ q ∷ after) (numbered : q.request ≡ job.number) (waits : waits_for_others g.st q.result ≡ true) (st : Stands g beside phase current (with_at t (Some job) tab) named 0 [] c v x) where
  pub record IsKeptBack : Type 0 where
    pub end : State g
    pub leads : Leads g.st composed g.P x [] end
    pub stands : Stands g beside phase current (with_at t (Some (put_off (part_of q.result) job)) tab) named 0 [] c v end
    pub board : end.board ≡ before ++ after
    pub leaving : end.leaving ≡ x.leaving
    pub now : end.now ≡ x.now
    pub asked : end.asked ≡ x.asked
    pub pending : end.pending ≡ x.pending

  abbrev old : Desk g
  old = desk_of g (with_at t (Some job) tab) named c v x

  mine : IsKept g old t job
  mine = st.kept.kept t job (with_here t (Some job) tab)

  abbrev given : Given
  given = record { server = q.server; result = q.result }

  abbrev better : Work g
  better = deferring (if is_better job.deferred (part_of q.result) then Some (part_of q.result) else job.deferred) job

  abbrev kept_back : State g
  kept_back = record x { board = before ++ after; held = with_held q.request (Some (keeping given mine.ask)) x.held }

  abbrev new : Desk g
  new = desk_of g (with_at t (Some better) tab) named c v kept_back

  held_then : kept_back.held ≡ with_at job.number (Some (keeping given mine.ask)) x.held
  held_then = ap (λ k. with_at k (Some (keeping given mine.ask)) x.held) numbered

  changes : Changes g t job better old new
  changes = record {
    jobs = sym (again_path t (Some better) (Some job) tab);
    is = with_here t (Some job) tab;
    number = refl;
    here = record {
      ask = keeping given mine.ask;
      is = ap (λ (h : ℕ → Option Waiting). h job.number) held_then ∙ with_here job.number (Some (keeping given mine.ask)) x.held;
      request = mine.request;
      octets = mine.octets;
      left = mine.left;
      all = mine.all;
      tried = mine.tried;
      waits = λ b p r m. (let w = mine.waits b p r m in record { within = w.within; fits = w.fits; ticket = w.ticket; waiting = w.waiting; named = w.named });
      apart = mine.apart;
      deferred = best_with mine.ask.kept_back given job.deferred mine.deferred;
      timer = mine.timer;
      armed = mine.armed;
    };
    others = λ u other ne m. λ k. record {
      ask = k.ask;
      is = ap (λ (h : ℕ → Option Waiting). h other.number) held_then ∙ (with_there job.number (Some (keeping given mine.ask)) x.held other.number (λ same. ne (st.kept.apart t u job other (with_here t (Some job) tab) m same)) ∙ k.is);
      request = k.request;
      octets = k.octets;
      left = k.left;
      all = k.all;
      tried = k.tried;
      waits = λ b p r m. (let w = k.waits b p r m in record { within = w.within; fits = w.fits; ticket = w.ticket; waiting = w.waiting; named = w.named });
      apart = k.apart;
      deferred = k.deferred;
      timer = k.timer;
      armed = k.armed;
    };
    owed = λ s i k lt is. inl (is, λ o. record { entry = o.entry; is = o.is; server = o.server; lower = o.lower; response = o.response; to_come = o.to_come });
    held = λ j a is. elim (is_or_was job.number (Some (keeping given mine.ask)) x.held j a (sym (ap (λ (h : ℕ → Option Waiting). h j) held_then) ∙ is)) [
      | inl p ↦ (mine.ask, subst (λ j. x.held j ≡ Some mine.ask) p.0 mine.is)
      | inr p ↦ (a, p.1)
    ];
    timers = λ i u is. elim (each u) [
      | inl same ↦ (let m = st.kept.timers i u is in inr (same, ap (λ (w : Work g). w.timer) (both_are (with_at t (Some job) tab u) job m.0 (subst (λ u. with_at t (Some job) tab u ≡ Some job) same (with_here t (Some job) tab)) m.1) ∙ m.2))
      | inr ne ↦ inl (ne, is)
    ];
  }
    where
      each : (u : ℕ) → (t ≡ u) ⊎ (t ≡ u → ⊥)
      each u = each_number (λ u. (t ≡ u) ⊎ (t ≡ u → ⊥)) t (inl refl) (λ u ne. inr ne) u

  pub keeps_it_back : IsKeptBack
  keeps_it_back = record {
    end = kept_back;
    leads = one_move g.st composed g.P x (unmade kept_back) (Keeps_back before after q mine.ask on (subst (λ k. x.held k ≡ Some mine.ask) (sym numbered) mine.is) waits) tt;
    stands = subst (λ (j : Work g). Stands g beside phase current (with_at t (Some j) tab) named 0 [] c v kept_back) (sym (put_off_is (part_of q.result) job)) (record {
      servers = record { count = st.servers.count; tied = st.servers.tied; apart = st.servers.apart; fair = st.servers.fair; place = st.servers.place; places = st.servers.places };
      quiet = st.quiet;
      is_named = st.is_named;
      still = st.still;
      less = st.less;
      kept = changed g t job better 0 old new changes st.kept;
      foreign = st.foreign;
      timers = st.timers;
      calm = λ at frames told. change_aside g current t job better tab v
          (λ i due timer set late. (let m = st.calm at frames told t job i due (with_here t (Some job) tab) timer set late in record { aside = m.aside; clear = m.clear })) (st.calm at frames told);
      is_open = st.is_open;
      drawn = st.drawn;
      due = st.due;
      own = st.own;
      far = st.far;
    });
    board = refl;
    leaving = refl;
    now = refl;
    asked = refl;
    pending = refl;
  }
