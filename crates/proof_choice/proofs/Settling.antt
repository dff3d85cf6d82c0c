-- A result that a server gave is taken: the request that waits for it ends, or goes on.
use Rattle.std.proofs.Common.{◌≡◌, ℕ, ◌<◌, ◌⊎◌, inl, inr, Bool, true, false, if◌then◌else◌, ◌==◌, ◌||◌, List, [], ◌∷◌, length, map, Option, Some, None, slice_get, Result, refl, sym, ap, subst, subst₂, ◌∙◌, le_refl, append-nil}
use Rattle.std.specs.Prelude.{set}
use Rattle.client_request.specs.Board.{Part}
use Rattle.client_request.specs.Numbered.{entry_at, frees}
use Rattle.client_request.specs.Request.{Request}
use Rattle.client_request.specs.View.{View}
use Rattle.client_request.specs.declared.board.Posted.{Posted as OnBoard}
use Rattle.client_request.specs.declared.error.Error.{Error}
use Rattle.client_choice.specs.Choice.{Choice, settled, silenced, gets, puts_off, put_off, is_deferred, is_better, is_last, ends, runs, rests, disarmed, unarmed, stopped}
use Rattle.client_choice.specs.Servers.{Server, owner}
use Rattle.client_choice.specs.declared.job.ListedServer.{ListedServer}
use Rattle.right_trace.specs.Parts.{IsIn}
use Rattle.proof_right.specs.machine.Client.{Posted, with_up, tag}
use Rattle.right_trace.specs.Messages.{Octets}
use Rattle.right_trace.specs.Validity.{waits_for_others}
use Rattle.proof_right.specs.machine.Part.{Post}
use Rattle.right_trace.specs.Updates.{with_at}
use Rattle.proof_parts.specs.Chains.{part_of, Gives}
use Rattle.proof_parts.specs.Lines.{Sorted}
use Rattle.proof_parts.specs.PartTie.{Phase, Leads as IfLeft}
use Rattle.proof_parts.specs.Sights.{sight}
use Rattle.proof_parts.proofs.Keys.{each_number, with_here, with_there, was_there}
use Rattle.proof_parts.proofs.Tables.{at_frees, sorted_frees, frees_path}
use Rattle.proof_choice.specs.Choosing.{Choosing}
use Rattle.proof_choice.specs.Servers.{State}
use Rattle.proof_choice.specs.Requests.{Beside, Work, Begun, Desk, Waits, IsKept, IsOwed, IsToStart, AreToStart, desk_of, Stands, Went}
use Rattle.proof_choice.specs.Doing.{HasDone}
use Rattle.proof_choice.proofs.Asides.{put_aside}
use Rattle.proof_choice.proofs.AtServer.{both_are, none_is, set_length}
use Rattle.client_choice.proofs.At.{set_here, set_there}
use Rattle.proof_choice.proofs.Changing.{Changes, changed}
use Rattle.proof_choice.proofs.Disarming.{again_path, goes_stopped, disarms}
use Rattle.proof_choice.proofs.Dropping.{owner_there, owner_here, left_on, follows_of}
use Rattle.proof_choice.proofs.Ending.{HasEnded, ends_with, outs_of, board_of, more_of}
use Rattle.proof_choice.proofs.Keepsakes.{some_with}
use Rattle.proof_choice.proofs.Outcomes.{deferred_alike}
use Rattle.proof_choice.proofs.PuttingOff.{put_off_is, IsKeptBack, keeps_it_back}
use Rattle.proof_choice.proofs.Resting.{rests_do}
use Rattle.proof_choice.proofs.Runs.{runs_do, done_after, ended_done, none_of}
use Rattle.proof_choice.proofs.ServerCalls.{in_conf}
use Rattle.proof_choice.proofs.Leading.{up_here, up_other}
use Rattle.proof_choice.proofs.Silencing.{there_before, stays_there, still_apart, one_alone}

-- what is named no more after results are given was not named before, or is one of them; what still is was
pub gives_less : (named : ℕ → Option ℕ) (bs : List OnBoard) (posts : List Post) (left : ℕ → Option ℕ) (i k : ℕ) → Gives named bs posts left → left i ≡ Some k → named i ≡ Some k
gives_less named [] [] left i k gives is = sym (gives i) ∙ is
gives_less named [] (q ∷ qs) left i k gives is = absurd gives
gives_less named (p ∷ ps) [] left i k gives is = absurd gives
gives_less named (p ∷ ps) (q ∷ qs) left i k gives is = (was_there p.ticket named i k (gives_less (with_at p.ticket None named) ps qs left i k gives.2 is)).1

-- who was tried is not to be started
tried_no : (count : ℕ) {s : ℕ} (l : List ListedServer) (tried : ℕ → Bool) → IsToStart s l → AreToStart count tried l → tried s ≡ true → ⊥
tried_no count [] tried m line is = m
tried_no count {s = s} (e ∷ l) tried m line is = elim m [
  | inl same ↦ not_both (tried s) is (subst (λ s. tried s ≡ false) same line.1)
  | inr n ↦ tried_no count l (λ t. (e.server == t) || tried t) n line.2 (or_true (e.server == s) (tried s) is)
]
  where
    not_both : (b : Bool) → b ≡ true → b ≡ false → ⊥
    not_both b p q = cc

    or_true : (b c : Bool) → c ≡ true → (b || c) ≡ true
    or_true true c e = refl
    or_true false c e = e

module _ (g : Choosing) (beside : Beside) (phase : ℕ → Phase) (current : ℕ) where
  -- Nothing more comes to the request of ticket t from the server whose results are taken, which gave its result under `lower`.
  module _ (t lower : ℕ) (job : Work g) (e : Begun g) (named : ℕ → ℕ → Option ℕ) (c : Choice Request g.U g.R) (v : View) (x : State g) (a : Server g.U)
      (st : Stands g beside phase current (λ j. entry_at j c.jobs) named 0 [] c v x) (table : (hi : ℕ) × Sorted 0 hi c.jobs) (at : slice_get c.servers current ≡ Some a) (is : entry_at t c.jobs ≡ Some job) (mine : IsIn e job.started) (server : e.server ≡ current) (under : e.lower ≡ lower)
      (waits : owner current lower c.servers ≡ Some t) (gone : g.names a.upstream lower ≡ None) where
    abbrev job1 : Work g
    job1 = settled current job

    abbrev b : Server g.U
    b = record a { waiting = frees lower a.waiting }

    abbrev c1 : Choice Request g.U g.R
    c1 = record c { servers = set c.servers current b; jobs = frees t c.jobs }

    abbrev named1 : ℕ → ℕ → Option ℕ
    named1 = with_up current (with_at lower None (named current)) named

    abbrev tab : ℕ → Option (Work g)
    tab = λ j. entry_at j (frees t c.jobs)

    abbrev old : Desk g
    old = desk_of g (λ j. entry_at j c.jobs) named c v x

    abbrev new : Desk g
    new = desk_of g (with_at t (Some job1) tab) named1 c1 v x

    pub here_named : (i : ℕ) → named1 current i ≡ with_at lower None (named current) i
    here_named i = ap (λ (f : ℕ → Option ℕ). f i) (up_here current (with_at lower None (named current)) named)

    there_named : (q i : ℕ) → (current ≡ q → ⊥) → named1 q i ≡ named q i
    there_named q i ne = ap (λ (f : ℕ → Option ℕ). f i) (up_other current q (with_at lower None (named current)) named ne)

    other_named : (q i : ℕ) → (current ≡ q → lower ≡ i → ⊥) → named1 q i ≡ named q i
    other_named q i ne = each_number (λ q. (current ≡ q → lower ≡ i → ⊥) → named1 q i ≡ named q i) current
        (λ ne. here_named i ∙ with_there lower None (named current) i (λ same. ne refl same)) (λ q differs ne. there_named q i differs) q ne

    sorted_a : (hi : ℕ) × Sorted 0 hi a.waiting
    sorted_a = (st.quiet current a at).1

    other_waiting : (q i : ℕ) → (current ≡ q → lower ≡ i → ⊥) → owner q i (set c.servers current b) ≡ owner q i c.servers
    other_waiting q i ne = each_number (λ q. (current ≡ q → lower ≡ i → ⊥) → owner q i (set c.servers current b) ≡ owner q i c.servers) current
        (λ ne. owner_here g (set c.servers current b) current i b (set_here c.servers current a b at) ∙ (at_frees lower i 0 sorted_a.0 a.waiting sorted_a.1
        ∙ (with_there lower None (λ j. entry_at j a.waiting) i (λ same. ne refl same) ∙ sym (owner_here g c.servers current i a at))))
        (λ q differs ne. owner_there g c.servers current q i b differs) q ne

    waits_so : (u k : ℕ) (f : Begun g) (r : g.R) → (current ≡ f.server → lower ≡ f.lower → ⊥) → Waits g old u k f r → Waits g new u k f r
    waits_so u k f r ne w = record { within = w.within; fits = w.fits; ticket = w.ticket; waiting = other_waiting f.server f.lower ne ∙ w.waiting; named = other_named f.server f.lower ne ∙ w.named }

    kept_job : IsKept g old t job
    kept_job = st.kept.kept t job is

    still_owed : (s i k : ℕ) → (current ≡ s → lower ≡ i → ⊥) → IsOwed g k job.started s i → IsOwed g k (silenced current job.started) s i
    still_owed s i k ne o = record { entry = o.entry; is = stays_there current job.started o.entry other o.is; server = o.server; lower = o.lower; response = o.response; to_come = o.to_come }
      where
        other : current ≡ o.entry.server → ⊥
        other same = ne (same ∙ o.server) (sym under ∙ (ap (λ (f : Begun g). f.lower) (one_alone job.started e o.entry kept_job.apart mine o.is (server ∙ same)) ∙ o.lower))

    changes : Changes g t job job1 old new
    changes = record {
      jobs = ap (λ f. with_at t (Some job1) f) (frees_path t 0 table.0 c.jobs table.1) ∙ again_path t (Some job1) None (λ j. entry_at j c.jobs);
      is = is;
      number = refl;
      here = record {
        ask = kept_job.ask;
        is = kept_job.is;
        request = kept_job.request;
        octets = kept_job.octets;
        left = kept_job.left;
        all = kept_job.all;
        tried = λ f m. (let w = there_before current job.started f kept_job.apart m in subst (λ s. kept_job.ask.tried s ≡ true) (sym w.server) (kept_job.tried w.before w.is));
        waits = λ f m r p.
            (let w = there_before current job.started f kept_job.apart m in
            let o = w.owes r p in
            let z = kept_job.waits w.before w.is r o.0 in
            let y = waits_so t job.number w.before r (λ same low. o.1 (same ∙ sym w.server)) z in
            record {
              within = subst (λ s. s < length (g.c).servers) (sym w.server) y.within;
              fits = subst (λ s. g.Fits s r) (sym w.server) y.fits;
              ticket = y.ticket ∙ sym w.lower;
              waiting = subst₂ (λ s l. new.waiting s l ≡ Some t) (sym w.server) (sym w.lower) y.waiting;
              named = subst₂ (λ s l. new.named s l ≡ Some job.number) (sym w.server) (sym w.lower) y.named;
            });
        apart = still_apart current job.started kept_job.apart;
        deferred = kept_job.deferred;
        timer = kept_job.timer;
        armed = kept_job.armed;
      };
      others = λ u other ne m k. record {
        ask = k.ask;
        is = k.is;
        request = k.request;
        octets = k.octets;
        left = k.left;
        all = k.all;
        tried = k.tried;
        waits = λ f p r o. (let w = k.waits f p r o in waits_so u other.number f r (λ same low. ne (both_are (owner f.server f.lower c.servers) t u (subst₂ (λ s l. owner s l c.servers ≡ Some t) same low waits) w.waiting)) w);
        apart = k.apart;
        deferred = k.deferred;
        timer = k.timer;
        armed = k.armed;
      };
      owed = λ s i k lt n. (let ne : (current ≡ s → lower ≡ i → ⊥) = (λ same low. none_is (named1 s i) k (subst₂ (λ s i. named1 s i ≡ None) same low (here_named lower ∙ with_here lower None (named current))) n) in inl (sym (other_named s i ne) ∙ n, still_owed s i k ne));
      held = λ k y m. (y, m);
      timers = λ i u m. elim (each u) [
        | inl same ↦ (let f = st.kept.timers i u m in inr (same, ap (λ (w : Work g). w.timer) (both_are (entry_at u c.jobs) job f.0 (subst (λ u. entry_at u c.jobs ≡ Some job) same is) f.1) ∙ f.2))
        | inr ne ↦ inl (ne, m)
      ];
    }
      where
        each : (u : ℕ) → (t ≡ u) ⊎ (t ≡ u → ⊥)
        each u = each_number (λ u. (t ≡ u) ⊎ (t ≡ u → ⊥)) t (inl refl) (λ u ne. inr ne) u

    was : (q : ℕ) (f : Server g.U) → slice_get (set c.servers current b) q ≡ Some f → (h : Server g.U) × (slice_get c.servers q ≡ Some h) × (f.upstream ≡ h.upstream) × (f.posted ≡ h.posted)
    was q f m = each_number (λ q. slice_get (set c.servers current b) q ≡ Some f → (h : Server g.U) × (slice_get c.servers q ≡ Some h) × (f.upstream ≡ h.upstream) × (f.posted ≡ h.posted)) current
        (λ m. (let p = both_are (slice_get (set c.servers current b) current) b f (set_here c.servers current a b at) m in (a, at, ap (λ (f : Server g.U). f.upstream) (sym p), ap (λ (f : Server g.U). f.posted) (sym p))))
        (λ q ne m. (f, sym (set_there c.servers current q b ne) ∙ m, refl, refl)) q m

    -- what stands then, with the request in hand
    pub settled_stands : Stands g beside phase current (with_at t (Some job1) tab) named1 0 [] c1 v x
    settled_stands = record {
      servers = record {
        count = set_length c.servers current b ∙ st.servers.count;
        tied = λ q f m. (let w = was q f m in subst (λ u. g.Tied q (phase q) u (sight v) (x.ups q)) (sym w.2) (st.servers.tied q w.0 w.1));
        apart = λ q r i f h m n o p. (let w = was q f m in let z = was r h n in st.servers.apart q r i w.0 z.0 w.1 z.1 (subst (λ u. g.Owns u i) w.2 o) (subst (λ u. g.Owns u i) z.2 p));
        fair = st.servers.fair;
        place = st.servers.place;
        places = st.servers.places;
      };
      quiet = λ q f m. each_number (λ q. slice_get (set c.servers current b) q ≡ Some f → (f.posted ≡ []) × ((hi : ℕ) × Sorted 0 hi f.waiting)) current
          (λ m. subst (λ (f : Server g.U). (f.posted ≡ []) × ((hi : ℕ) × Sorted 0 hi f.waiting)) (both_are (slice_get (set c.servers current b) current) b f (set_here c.servers current a b at) m)
          ((st.quiet current a at).0, (sorted_a.0, sorted_frees lower 0 sorted_a.0 a.waiting sorted_a.1)))
          (λ q ne m. st.quiet q f (sym (set_there c.servers current q b ne) ∙ m)) q m;
      is_named = λ q f m ne i. (let w = was q f m in there_named q i ne ∙ (st.is_named q w.0 w.1 ne i ∙ ap (λ u. g.names u i) (sym w.2)));
      still = λ f m i. (let w = was current f m in ap (λ u. g.names u i) w.2 ∙ st.still w.0 w.1 i);
      less = λ i k n. here_named i ∙ (with_there lower None (named current) i (λ same. none_is (beside.left i) k (subst (λ i. beside.left i ≡ None) same (sym (st.still a at lower) ∙ gone)) n) ∙ st.less i k n);
      kept = changed g t job job1 0 old new changes st.kept;
      foreign = λ i u q f m n o. (let w = was q f n in st.foreign i u q w.0 m w.1 (subst (λ u. g.Owns u i) w.2 o));
      timers = st.timers;
      calm = λ at frames told. put_aside g current t job1 (λ j. entry_at j c.jobs) (λ j. entry_at j (frees t c.jobs)) v
          (λ u other ne m. sym (at_frees t u 0 table.0 c.jobs table.1 ∙ with_there t None (λ j. entry_at j c.jobs) u ne) ∙ m)
          (λ i due timer set late. record {
            aside = (st.calm at frames told t job i due is timer set late).aside;
            clear = λ f m r p same. ((there_before current job.started f kept_job.apart m).owes r p).1 same;
          }) (st.calm at frames told);
      is_open = st.is_open;
      drawn = st.drawn;
      due = st.due;
      own = st.own;
      far = λ i q f are h o. (let w = was q f h in st.far i q w.0 are w.1 (subst (λ u. g.Owns u i) w.2 o));
    }

  -- What is left once a result was taken: one of the request of some ticket.
  pub record IsSettled (lower : ℕ) (rest : List Posted) (named : ℕ → ℕ → Option ℕ) (c : Choice Request g.U g.R) (v : View) (x : State g) (d : Choice Request g.U g.R) (w : View) : Type 0 where
    pub ticket : ℕ
    pub job : Work g
    pub was : entry_at ticket c.jobs ≡ Some job
    pub named1 : ℕ → ℕ → Option ℕ
    pub here : (i : ℕ) → named1 current i ≡ with_at lower None (named current) i
    pub done : HasDone g beside phase current ticket job.number (λ j. entry_at j (frees ticket c.jobs)) rest named1 v x d w

  module _ (t lower : ℕ) (job : Work g) (e : Begun g) (result : Result Octets Error) (qs : List Post) (named : ℕ → ℕ → Option ℕ) (c : Choice Request g.U g.R) (v : View) (x : State g) (a : Server g.U)
      (st : Stands g beside phase current (λ j. entry_at j c.jobs) named 0 [] c v x) (table : (hi : ℕ) × Sorted 0 hi c.jobs) (at : slice_get c.servers current ≡ Some a) (is : entry_at t c.jobs ≡ Some job) (mine : IsIn e job.started) (server : e.server ≡ current) (under : e.lower ≡ lower)
      (waits : owner current lower c.servers ≡ Some t) (gone : g.names a.upstream lower ≡ None) (board : x.board ≡ map (tag current) (record { request = job.number; result = result } ∷ qs))
      (behind : (y : Posted) → IsIn y (map (tag current) qs) → (i : ℕ) × (with_at lower None (named current) i ≡ Some y.request)) where
    abbrev silent_job : Work g
    silent_job = settled current job

    abbrev without : Choice Request g.U g.R
    without = record c { servers = set c.servers current (record a { waiting = frees lower a.waiting }); jobs = frees t c.jobs }

    abbrev names_then : ℕ → ℕ → Option ℕ
    names_then = with_up current (with_at lower None (named current)) named

    abbrev others : ℕ → Option (Work g)
    others = λ j. entry_at j (frees t c.jobs)

    abbrev posted : Posted
    posted = record { server = current; request = job.number; result = result }

    abbrev rest : List Posted
    rest = map (tag current) qs

    stands_then : Stands g beside phase current (with_at t (Some silent_job) others) names_then 0 [] without v x
    stands_then = settled_stands t lower job e named c v x a st table at is mine server under waits gone

    within : current < length (g.c).servers
    within = in_conf g phase c.servers v x current a st.servers at

    none_there : others t ≡ None
    none_there = at_frees t t 0 table.0 c.jobs table.1 ∙ with_here t None (λ j. entry_at j c.jobs)

    sorted_then : (hi : ℕ) × Sorted 0 hi (frees t c.jobs)
    sorted_then = (table.0, sorted_frees t 0 table.0 c.jobs table.1)

    quiet_here : (b : Begun g) → IsIn b (silenced current job.started) → (r : g.R) → b.response ≡ Some r → current ≡ b.server → ⊥
    quiet_here b m r p same = ((there_before current job.started b (st.kept.kept t job is).apart m).owes r p).1 same

    settled_of : (d : Choice Request g.U g.R) (w : View) → HasDone g beside phase current t job.number others rest names_then v x d w → IsSettled lower rest named c v x d w
    settled_of d w h = record { ticket = t; job = job; was = is; named1 = names_then; here = here_named t lower job e named c v x a st table at is mine server under waits gone; done = h }

    -- it is put off
    module _ (deferred : waits_for_others g.st result ≡ true) where
      kept : IsKeptBack g beside phase current t silent_job others names_then without v x [] rest posted board refl deferred stands_then
      kept = keeps_it_back g beside phase current t silent_job others names_then without v x [] rest posted board refl deferred stands_then

      abbrev job2 : Work g
      job2 = put_off (part_of result) silent_job

      shape : job2 ≡ record silent_job { deferred = (if is_better job.deferred (part_of result) then Some (part_of result) else job.deferred) }
      shape = put_off_is (part_of result) silent_job

      some_kept : (part : Part) × (job2.deferred ≡ Some part)
      some_kept = (let p = some_with job.deferred (part_of result) in (p.0, ap (λ (j : Work g). j.deferred) shape ∙ p.1))

      kept_went : Went g v x v kept.end
      kept_went = record { outs = []; leads = kept.leads; put = sym (append-nil v.outs); goes_on = record { fair = st.servers.fair; now = refl; timer = le_refl v.timers.next; ticket = le_refl v.ticket; place = le_refl v.place; later = λ i due is. inl is }; now = kept.now; asked = kept.asked; pending = kept.pending }

      quiet_then : (b : Begun g) → IsIn b job2.started → (r : g.R) → b.response ≡ Some r → current ≡ b.server → ⊥
      quiet_then b m r p same = quiet_here b (subst (λ bs. IsIn b bs) (ap (λ (j : Work g). j.started) shape) m) r p same

      pending_then : (y : Posted) → IsIn y kept.end.board → (current < length (g.c).servers) × ((i : ℕ) × (names_then current i ≡ Some y.request))
      pending_then y m = (let h = behind y (subst (λ ps. IsIn y ps) kept.board m) in (within, (h.0, here_named t lower job e named c v x a st table at is mine server under waits gone h.0 ∙ h.1)))

      -- it was not to be started again
      not_to_start : (l : List ListedServer) → IsToStart current l → AreToStart (length (g.c).servers) (st.kept.kept t job is).ask.tried l → ⊥
      not_to_start l m line = tried_no (length (g.c).servers) l (st.kept.kept t job is).ask.tried m line (subst (λ s. (st.kept.kept t job is).ask.tried s ≡ true) server ((st.kept.kept t job is).tried e mine))

      came_on : (k : ℕ) (d : Choice Request g.U g.R) (w : View) (u : View) → Went g v x u kept.end → u.board ≡ v.board → u.more ≡ v.more → k ≡ job.number → HasDone g beside phase current t k others kept.end.board names_then u kept.end d w → IsSettled lower rest named c v x d w
      came_on k d w u went put more number h = settled_of d w (done_after g beside phase current t job.number others rest names_then names_then v x u kept.end d w went kept.leaving put more (λ i. refl)
          (subst₂ (λ k ps. HasDone g beside phase current t k others ps names_then u kept.end d w) number kept.board h))

      pub goes_off : IfLeft (IsSettled lower rest named c v x) (puts_off g.below g.settings t current job2 without v)
      goes_off = by (is_last current job2)
        where
          by : (z : Bool) → IfLeft (IsSettled lower rest named c v x) (if z then runs g.below g.settings t job2.left (disarmed job2) (unarmed job2.timer without) (stopped job2.timer v) else rests t job2 without v)
          by false = left_on g (HasDone g beside phase current t job2.number others kept.end.board names_then v kept.end) (IsSettled lower rest named c v x) (rests t job2 without v)
              (λ d w h. came_on job2.number d w v kept_went refl refl (ap (λ (j : Work g). j.number) shape) h)
              (rests_do g beside phase current t job2 others names_then without v kept.end refl none_there sorted_then kept.stands some_kept.0 some_kept.1
              (none_of g beside phase current t job2 others names_then without v kept.end kept.stands quiet_then pending_then))
          by true = left_on g (HasDone g beside phase current t job2.number others kept.end.board names_then (stopped job2.timer v) kept.end) (IsSettled lower rest named c v x) (runs g.below g.settings t job2.left (disarmed job2) (unarmed job2.timer without) (stopped job2.timer v))
              (λ d w h. came_on job2.number d w (stopped job2.timer v) (stopped_went job2.timer) (board_of g beside phase current job2.timer v) (more_of g beside phase current job2.timer v) (ap (λ (j : Work g). j.number) shape) h)
              (runs_do g beside phase current job2.left t (disarmed job2) others names_then (unarmed job2.timer without) (stopped job2.timer v) kept.end (record {
                left = refl;
                calm = refl;
                has = λ none. some_kept;
                aside = λ m. not_to_start job.left (subst (λ l. IsToStart current l) (ap (λ (j : Work g). j.left) shape) m) (st.kept.kept t job is).left;
                clear = quiet_then;
                pending = pending_then;
                is_table = refl;
                new = none_there;
                sorted = sorted_then;
                stands = disarms g beside phase current names_then 0 t job2 others without v kept.end kept.stands;
              }))
            where
              stopped_went : (o : Option ℕ) → Went g v x (stopped o v) kept.end
              stopped_went o = record { outs = []; leads = kept.leads; put = outs_of g beside phase current o v ∙ sym (append-nil v.outs); goes_on = follows_of g v (stopped o v) (goes_stopped o v st.servers.fair); now = kept.now; asked = kept.asked; pending = kept.pending }

    pub gets_it : IfLeft (IsSettled lower rest named c v x) (gets g.below g.settings t current (part_of result) silent_job without v)
    gets_it = by (is_deferred g.settings (part_of result)) (deferred_alike g.settings g.st g.same result)
      where
        by : (z : Bool) → z ≡ waits_for_others g.st result → IfLeft (IsSettled lower rest named c v x) (if z then puts_off g.below g.settings t current (put_off (part_of result) silent_job) without v else ends g.below t current (part_of result) silent_job without v)
        by true waits = goes_off (sym waits)
        by false final = left_on g (HasEnded g beside phase current t job.number others (part_of result) rest names_then without v x) (IsSettled lower rest named c v x) (ends g.below t current (part_of result) silent_job without v)
            (λ d w h. settled_of d w (ended_done g beside phase current t job.number others (part_of result) rest names_then without v x d w refl none_there sorted_then h))
            (ends_with g beside phase current t current silent_job others names_then without v x [] rest posted none_there stands_then quiet_here board refl (sym final))
