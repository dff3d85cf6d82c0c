-- A request ends: it has its result, and each server that still owes it one gives it up.
use Rattle.std.proofs.Common.{◌≡◌, ℕ, inl, false, List, [], ◌∷◌, ◌++◌, Option, Some, None, refl, sym, ap, subst, ◌∙◌, le_refl}
use mathlib.Core.Path.{fun_ext}
use Rattle.std.specs.Prelude.{option_map}
use Rattle.client_request.specs.Board.{Part}
use Rattle.client_request.specs.Composed.{composed}
use Rattle.client_request.specs.Request.{Request}
use Rattle.client_request.specs.View.{View, answers}
use Rattle.client_request.specs.declared.event.Out.{Out}
use Rattle.client_choice.specs.Choice.{Choice, ends, gives_up, judged, drops_each, stopped, unarmed, disarmed}
use Rattle.right_trace.specs.Parts.{IsIn}
use Rattle.right_trace.specs.Validity.{waits_for_others}
use Rattle.proof_right.specs.machine.Client.{Posted, Move, Caches, Delivers, leave, unmade}
use Rattle.right_trace.specs.Updates.{with_at}
use Rattle.proof_parts.specs.Chains.{part_of}
use Rattle.proof_parts.specs.PartTie.{Phase, Leads as IfLeft}
use Rattle.proof_parts.specs.WholeTie.{Gave, leaving_of}
use Rattle.proof_parts.proofs.Keys.{with_here, with_same}
use Rattle.proof_choice.specs.Choosing.{Choosing}
use Rattle.proof_parts.specs.Leading.{IsBelow, Then}
use Rattle.proof_choice.specs.Servers.{State, Listed}
use Rattle.proof_choice.specs.Requests.{Beside, Work, Begun, IsKept, desk_of, Stands, Went}
use Rattle.proof_choice.proofs.Asides.{gone_aside}
use Rattle.proof_choice.proofs.Changing.{ended}
use Rattle.proof_choice.proofs.Disarming.{goes_stopped, again_path, disarms, stands_judged}
use Rattle.proof_choice.proofs.Dropping.{AreOff, all_off, follows_of, follows_then}
use Rattle.proof_choice.proofs.Outcomes.{outcome_request}

module _ (g : Choosing) (beside : Beside) (phase : ℕ → Phase) (current : ℕ) where
  -- The request of ticket t, whose number is k, has this result: it leaves in the machine, and its result stands on the board.
  pub record HasEnded (t k : ℕ) (tab : ℕ → Option (Work g)) (part : Part) (rest : List Posted) (named : ℕ → ℕ → Option ℕ) (c : Choice Request g.U g.R) (v : View) (x : State g) (d : Choice Request g.U g.R) (w : View) : Type 0 where
    pub named' : ℕ → ℕ → Option ℕ
    pub end : State g
    pub went : Went g v x w end
    pub stands : Stands g beside phase current tab named' k [] d w end
    pub jobs : d.jobs ≡ c.jobs
    pub gave : Gave
    pub leaves : end.leaving ≡ x.leaving ++ leaving_of g.st gave ∷ []
    pub request : gave.request ≡ k
    pub result : part ≡ part_of gave.result
    pub board : end.board ≡ rest
    pub put : w.board ≡ v.board ++ record { ticket = t; part = part; is_stale = false } ∷ []
    pub more : w.more ≡ v.more
    pub same_there : (i : ℕ) → named' current i ≡ named current i

  pub outs_of : (o : Option ℕ) (v : View) → (stopped o v).outs ≡ v.outs
  outs_of None v = refl
  outs_of (Some i) v = refl

  pub board_of : (o : Option ℕ) (v : View) → (stopped o v).board ≡ v.board
  board_of None v = refl
  board_of (Some i) v = refl

  pub more_of : (o : Option ℕ) (v : View) → (stopped o v).more ≡ v.more
  more_of None v = refl
  more_of (Some i) v = refl

  -- A request leaves by this move. Those that owe it a result give it up.
  module _ (t : ℕ) (job : Work g) (tab : ℕ → Option (Work g)) (named : ℕ → ℕ → Option ℕ) (c : Choice Request g.U g.R) (v : View) (x : State g) (new : tab t ≡ None) (st : Stands g beside phase current (with_at t (Some job) tab) named 0 [] c v x) (giver now : ℕ)
      (rest : List Posted) (z : Gave) (leaves : Move g.c g.st composed g.P x (unmade (leave (leaving_of g.st z) (record x { board = rest })))) (is_below : IsBelow g.st composed g.P x (unmade (leave (leaving_of g.st z) (record x { board = rest }))) leaves) (numbered : z.request ≡ job.number) (others : (b : Begun g) → IsIn b job.started → (r : g.R) → b.response ≡ Some r → current ≡ b.server → ⊥) where
    abbrev mid : Choice Request g.U g.R
    mid = unarmed job.timer (judged giver job now c)

    abbrev told_of : View
    told_of = answers t (part_of z.result) (stopped job.timer v)

    abbrev left : State g
    left = leave (leaving_of g.st z) (record x { board = rest })

    number_then : (leaving_of g.st z).request ≡ job.number
    number_then = outcome_request g.st z.request z.asked z.result ∙ numbered

    calm : Stands g beside phase current (with_at t (Some (disarmed job)) tab) named 0 [] mid (stopped job.timer v) x
    calm = stands_judged g beside phase current named 0 (with_at t (Some (disarmed job)) tab) [] (unarmed job.timer c) (stopped job.timer v) x giver now job.started (disarms g beside phase current named 0 t job tab c v x st)

    over : Stands g beside phase current tab named job.number job.started mid told_of left
    over = record {
      servers = record { count = calm.servers.count; tied = calm.servers.tied; apart = calm.servers.apart; fair = record { order = calm.servers.fair.order; words = calm.servers.fair.words }; place = calm.servers.place; places = calm.servers.places };
      quiet = calm.quiet;
      is_named = calm.is_named;
      still = calm.still;
      less = calm.less;
      kept = ended g t (disarmed job) (desk_of g (with_at t (Some (disarmed job)) tab) named mid (stopped job.timer v) x) (desk_of g tab named mid told_of left)
          (with_here t (Some (disarmed job)) tab) refl (sym (again_path t None (Some (disarmed job)) tab ∙ fun_ext (λ j. none_again t tab j new))) refl refl refl
          (ap (λ k. with_at k None x.held) number_then) refl 0 calm.kept;
      foreign = calm.foreign;
      timers = calm.timers;
      calm = λ at frames told. gone_aside g current t (Some (disarmed job)) tab (stopped job.timer v) new (calm.calm at frames told);
      is_open = calm.is_open;
      drawn = calm.drawn;
      due = calm.due;
      own = calm.own;
      far = calm.far;
    }
      where
        none_again : (t : ℕ) (tab : ℕ → Option (Work g)) (j : ℕ) → tab t ≡ None → with_at t None tab j ≡ tab j
        none_again t tab j new = with_same t None tab j new

    owed : IsKept g (desk_of g (with_at t (Some job) tab) named c v x) t job
    owed = st.kept.kept t job (with_here t (Some job) tab)

    owed_then : IsKept g (desk_of g (with_at t (Some (disarmed job)) tab) named mid (stopped job.timer v) x) t (disarmed job)
    owed_then = calm.kept.kept t (disarmed job) (with_here t (Some (disarmed job)) tab)

    pub it_ends : IfLeft (HasEnded t job.number tab (part_of z.result) rest named c v x) (gives_up g.below job.started mid told_of)
    it_ends = by (drops_each g.below job.started mid.servers told_of)
        (all_off g beside phase current tab job.number t new job.started named mid told_of left
        (ap (λ k. with_at k None x.held job.number) number_then ∙ with_here job.number None x.held) owed.apart
        (λ b i r p. (others b i r p, (let w = owed_then.waits b i r p in record { within = w.within; fits = w.fits; ticket = w.ticket; waiting = w.waiting; named = w.named }))) over)
      where
        by : (o : Option (Listed g × View)) → IfLeft (AreOff g beside phase current tab job.number t new [] named mid told_of left) o → IfLeft (HasEnded t job.number tab (part_of z.result) rest named c v x) (option_map (λ y. (record mid { servers = y.0 }, y.1)) o)
        by None l = tt
        by (Some y) l = record {
          named' = l.named';
          end = l.end;
          went = record {
            outs = l.went.outs;
            leads = Then x (unmade left) l.went.outs l.end leaves is_below l.went.leads;
            put = l.went.put ∙ ap (λ (o : List Out). o ++ l.went.outs) (outs_of job.timer v);
            goes_on = follows_then g v (stopped job.timer v) y.1 (follows_of g v (stopped job.timer v) (goes_stopped job.timer v st.servers.fair))
                (follows_then g (stopped job.timer v) told_of y.1 (follows_of g (stopped job.timer v) told_of (record { fair = over.servers.fair; now = refl; timer = le_refl (stopped job.timer v).timers.next; ticket = le_refl (stopped job.timer v).ticket; place = le_refl (stopped job.timer v).place; later = λ i due is. inl is })) l.went.goes_on);
            now = l.went.now;
            asked = l.went.asked;
            pending = l.went.pending;
          };
          stands = l.stands;
          jobs = refl;
          gave = z;
          leaves = l.leaving;
          request = numbered;
          result = refl;
          board = l.board;
          put = l.put ∙ ap (λ bs. bs ++ record { ticket = t; part = part_of z.result; is_stale = false } ∷ []) (board_of job.timer v);
          more = l.more ∙ more_of job.timer v;
          same_there = l.same_there;
        }

  -- It ends with a result that a server gave, which stands on the machine's board.
  pub ends_with : (t giver : ℕ) (job : Work g) (tab : ℕ → Option (Work g)) (named : ℕ → ℕ → Option ℕ) (c : Choice Request g.U g.R) (v : View) (x : State g) (before after : List Posted) (q : Posted)
      → tab t ≡ None → Stands g beside phase current (with_at t (Some job) tab) named 0 [] c v x → ((b : Begun g) → IsIn b job.started → (r : g.R) → b.response ≡ Some r → current ≡ b.server → ⊥)
      → x.board ≡ before ++ q ∷ after → q.request ≡ job.number → waits_for_others g.st q.result ≡ false
      → IfLeft (HasEnded t job.number tab (part_of q.result) (before ++ after) named c v x) (ends g.below t giver (part_of q.result) job c v)
  ends_with t giver job tab named c v x before after q new st others on numbered final =
      let m = st.kept.kept t job (with_here t (Some job) tab) in
      let z : Gave = record { request = q.request; asked = m.ask.request; result = q.result } in
      it_ends t job tab named c v x new st giver v.now (before ++ after) z (Delivers before after q m.ask (leaving_of g.st z) on (subst (λ k. x.held k ≡ Some m.ask) (sym numbered) m.is) final Caches) tt numbered others
