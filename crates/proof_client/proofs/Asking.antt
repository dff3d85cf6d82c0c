-- A request is asked: the transport takes it as the client's machine does.
use Rattle.std.proofs.Common.{◌≡◌, ℕ, suc, ◌+◌, ◌<◌, ◌≤◌, inl, inr, Bool, true, false, is_some, if◌then◌else◌, List, [], ◌++◌, map, Option, Some, None, refl, sym, ap, subst, ◌∙◌, arith, le_refl, add-one}
use Rattle.std.specs.Prelude.{option_and_then}
use mathlib.Core.Path.{fun_ext}
use Rattle.client_request.specs.Carries.{IsOfOctets}
use Rattle.client_request.specs.Numbered.{entry_at, puts}
use Rattle.client_request.specs.Request.{Request}
use Rattle.client_request.specs.Timers.{can_draw, with_timer}
use Rattle.client_request.specs.View.{View, sets_timer}
use Rattle.client_request.specs.declared.event.Out.{Out}
use Rattle.client_request.specs.declared.event.What.{What}
use Rattle.client_request.specs.declared.event.What.TheVariants.{Ask, Tick}
use Rattle.right_trace.specs.Requests.{is_ask}
use Rattle.proof_right.specs.machine.Client.{Waiting as Held, take_on, newcomer}
use Rattle.right_trace.specs.Updates.{with_at}
use Rattle.proof_parts.specs.ClientTie.{LeadsBeside, HasAsked, reply_of}
use Rattle.proof_parts.specs.PartTie.{Phase, Untold, MayEnd, Leads as IfLeft}
use Rattle.proof_parts.specs.Sights.{sight, due_of, IsFair}
use Rattle.proof_client.specs.Above.{Tying}
use Rattle.client_steps.specs.Client.{client_of, asks_request, sends, accepts, waits, replies}
use Rattle.client_steps.specs.Machines.{machine_of}
use Rattle.client_steps.specs.declared.asked.Waiting.{Waiting}
use Rattle.client_steps.proofs.Tables.{Sorted, rises_below, at_puts, puts_path, sorted_puts}
use Rattle.client_steps.proofs.TimerLaws.{due_set, order_set, unset_above}
use Rattle.proof_client.proofs.Calling.{after_call, StandOn, PlainClient, IsTied}
use Rattle.proof_client.proofs.Desk.{AreKept, at_other, is_or_was, none_is, one_comes, kept_so}
use Rattle.proof_client.proofs.Firing.{IfSome, MayFire, left_on}
use Rattle.proof_client.proofs.Giving.{named_before}
use Rattle.proof_client.proofs.Holding.{Requests, State, Kept, IsFor, Holds, Fits, desk_of}

none_by : {A : Type 0} → (o : Option A) → ((b : A) → o ≡ Some b → ⊥) → o ≡ None
none_by None f = refl
none_by (Some b) f = absurd (f b refl)

module _ {A : Type 0} where
  sorted_more : (k : ℕ) (v : A) (es : List (ℕ × A)) (s : (hi : ℕ) × Sorted 0 hi es) → Sorted 0 (s.0 + suc k) (puts k v es)
  sorted_more k v es s = sorted_puts k v 0 (s.0 + suc k) es (low k) (high s.0 k) (rises_below (λ (e : ℕ × A). e.0) 0 s.0 (s.0 + suc k) es (more s.0 k) s.1)
    where
      low : (k : ℕ) → 0 ≤ k
      low k = omega arith

      high : (h k : ℕ) → k < h + suc k
      high h k = omega arith

      more : (h k : ℕ) → h ≤ h + suc k
      more h k = omega arith

one_more : (n : ℕ) → n ≤ n + 1
one_more n = omega arith

module _ (g : Tying) where
  -- what an event made of the client
  pub record Happened (v : View) (from : State g) (b : Kept g) (d : PlainClient g) : Type 0 where
    pub phase : Phase
    pub may_end : MayEnd phase
    pub pending : What
    pub taken : is_ask pending ≡ false
    pub outs : List Out
    pub end : State g
    pub beside : Kept g
    pub leads : LeadsBeside g.st g.P g.B from b outs end beside
    pub may_fire : MayFire g phase end
    pub tied : IsTied g phase pending d end beside
    pub put : d.view.outs ≡ v.outs ++ outs

  module _ (r : Request) (u : g.V) (a : Requests g) (v : View) (x : State g) (b : Kept g) (f : Fits g (Untold (Ask r)) (Ask r) (g.names u) u [] a v x b) (octets : IsOfOctets r) (board : v.board ≡ []) where
    unset : due_of v.timers.next v.timers.set ≡ None
    unset = unset_above 0 v.timers.next v.timers.next v.timers.set (le_refl v.timers.next) f.fair.order

    not_owned : g.Owns u v.timers.next → ⊥
    not_owned o = (let s = g.tie.set (Untold (Ask r)) u (sight v) x b v.timers.next f.tied o in none_is (due_of v.timers.next v.timers.set) s.0 unset s.1)

    not_below : (n : ℕ) → n < n → ⊥
    not_below n lt = omega arith

    no_request : entry_at v.ticket a.waiting ≡ None
    no_request = none_by (entry_at v.ticket a.waiting) (λ w e. not_below v.ticket (g.tie.named (Untold (Ask r)) u (sight v) x b v.ticket w.number f.tied (f.holds.kept.kept v.ticket w e).named).0)

    no_deadline : entry_at v.timers.next a.deadlines ≡ None
    no_deadline = none_by (entry_at v.timers.next a.deadlines) (λ i e. (let l = f.holds.kept.late v.timers.next i e in let m = f.holds.kept.kept i l.0 l.1 in
        none_is (due_of v.timers.next v.timers.set) m.due unset (subst (λ t. due_of t v.timers.set ≡ Some m.due) l.2 m.set)))

    no_held : x.held a.next ≡ None
    no_held = none_by (x.held a.next) (λ h e. (let l = g.tie.held (Untold (Ask r)) u (sight v) x b a.next f.tied (ap is_some e) in let m = f.holds.kept.named l.0 a.next l.1 in
        not_below a.next (subst (λ n. n < a.next) m.2 (f.holds.kept.kept l.0 m.0 m.1).small)))

    -- the view with the deadline's timer
    abbrev timed : View
    timed = record v { request = a.next; timers = with_timer (v.now + (g.c).timeout) v.timers }

    timed_path : (λ (j : ℕ). due_of j timed.timers.set) ≡ with_at v.timers.next (Some (v.now + (g.c).timeout)) (λ j. due_of j v.timers.set)
    timed_path = fun_ext (λ j. due_set (v.now + (g.c).timeout) j 0 v.timers.next v.timers.set f.fair.order)

    zero_below : (n : ℕ) → 0 ≤ n
    zero_below n = omega arith

    timed_fair : IsFair timed
    timed_fair = record { order = order_set (v.now + (g.c).timeout) 0 v.timers.next v.timers.set (zero_below v.timers.next) f.fair.order; words = f.fair.words }

    abbrev response : g.Q
    response = g.T.response r u timed

    abbrev waiting : Waiting g.Q
    waiting = record { number = a.next; timer = v.timers.next; response = response }

    is_numbered : g.ticket response ≡ v.ticket
    is_numbered = g.tie.response r u timed

    -- as the machine has it
    abbrev taken_on : State g
    taken_on = take_on r None x

    abbrev newest : Held
    newest = newcomer r x.now

    abbrev named : ℕ → Option ℕ
    named = with_at v.ticket (Some a.next) (g.names u)

    held_path : taken_on.held ≡ with_at a.next (Some newest) x.held
    held_path = ap (λ k. with_at k (Some newest) x.held) f.holds.asked

    dues_path : (λ (j : ℕ). due_of j timed.timers.set) ≡ with_at v.timers.next (Some (x.now + (g.c).timeout)) (λ j. due_of j v.timers.set)
    dues_path = timed_path ∙ ap (λ n. with_at v.timers.next (Some (n + (g.c).timeout)) (λ j. due_of j v.timers.set)) (sym f.holds.now)

    -- no result of it is to come yet
    is_for : IsFor g u v.ticket response
    is_for = (is_numbered, λ k e. absurd (not_below v.ticket (g.tie.named (Untold (Ask r)) u (sight v) x b v.ticket k f.tied e).0))

    accepted_holds : Holds g Tick named u (waits v.ticket v.timers.next waiting a) timed taken_on
    accepted_holds = record {
      now = f.holds.now;
      asked = ap suc f.holds.asked ∙ sym (add-one a.next);
      pending = refl;
      kept = subst (λ n. AreKept (g.c).timeout (IsFor g u) n (desk_of g named (waits v.ticket v.timers.next waiting a) timed taken_on)) (sym (add-one a.next))
          (kept_so (g.c).timeout (IsFor g u) (suc a.next) named _ _ _ _ _ _ _ _ (puts_path v.ticket waiting a.waiting) (puts_path v.timers.next v.ticket a.deadlines) held_path dues_path
          (one_comes (g.c).timeout (IsFor g u) a.next (desk_of g (g.names u) a v x) v.ticket waiting newest f.holds.kept refl no_request no_deadline is_for));
      waiting = (f.holds.waiting.0 + suc v.ticket, sorted_more v.ticket waiting a.waiting f.holds.waiting);
      deadlines = (f.holds.deadlines.0 + suc v.timers.next, sorted_more v.timers.next v.ticket a.deadlines f.holds.deadlines);
      foreign = λ i t d own. elim (is_or_was v.timers.next v.ticket (λ (j : ℕ). entry_at j a.deadlines) i t (sym (at_puts v.timers.next v.ticket i a.deadlines) ∙ d)) [
        | inl p ↦ not_owned (subst (λ i. g.Owns u i) (sym p.0) own)
        | inr p ↦ f.holds.foreign i t p.1 own
      ];
    }

    tied_timed : g.Tied (Untold (Ask r)) u (sight timed) x b
    tied_timed = g.tie.same (Untold (Ask r)) u (sight v) (sight timed) x b f.tied refl
        (λ i own. ap (λ (h : ℕ → Option ℕ). h i) timed_path ∙ at_other v.timers.next (Some (v.now + (g.c).timeout)) (λ (j : ℕ). due_of j v.timers.set) i (λ same. not_owned (subst (λ i. g.Owns u i) (sym same) own)))
        (one_more v.timers.next) (le_refl v.ticket) refl

    -- what a call leaves
    abbrev Left : g.V → View → Type 0
    Left w y = HasAsked g.st g.P g.B g.T g.IsHanded g.Tied g.names g.Owns r x b u timed w y

    stand : (w : g.V) (y : View) → Left w y → StandOn g (waits v.ticket v.timers.next waiting a) u w
    stand w y l i p e s = elim (is_or_was v.ticket waiting (λ (j : ℕ). entry_at j a.waiting) i p (sym (at_puts v.ticket waiting i a.waiting) ∙ e)) [
      | inl m ↦ (s.0, λ k n. subst (λ (p : Waiting g.Q). g.IsHanded p.response) m.1 (l.handed k (subst (λ i. g.names w i ≡ Some k) (sym m.0) n)))
      | inr m ↦ (s.0, λ k n. s.1 k (sym (at_other v.ticket (Some a.next) (g.names u) i m.0) ∙ named_before named l.leaves.board (map reply_of l.leaves.leaving) (g.names w) l.leaves.gives i k n))
    ]

    accepted_so : (w : g.V) (y : View) → Left w y → Happened v x b (client_of w (replies (waits v.ticket v.timers.next waiting a, y)))
    accepted_so w y l =
        let c = after_call g (Untold (Ask r)) Tick named u (waits v.ticket v.timers.next waiting a) timed x taken_on b w y accepted_holds f.leaving timed_fair board l.leaves (stand w y l) in
        record {
          phase = Untold (Ask r);
          may_end = tt;
          pending = Tick;
          taken = refl;
          outs = c.outs;
          end = c.end;
          beside = c.beside;
          leads = c.leads;
          may_fire = tt;
          tied = record { fits = c.fits; board = c.board };
          put = c.put;
        }

    accepted : IfSome g (Happened v x b) (sends (machine_of g.T g.ticket g.stale) r (client_of u (a, v)) v.timers.next timed)
    accepted = by (g.T.send r u timed)
        (left_on Left After (g.T.send r u timed)
        (λ w y l. subst (λ n. Happened v x b (client_of w (replies (waits n v.timers.next waiting a, y)))) (sym is_numbered) (accepted_so w y l))
        (g.tie.asks u timed x b r tied_timed f.leaving timed_fair octets f.holds.pending f.holds.asked no_held))
      where
        After : g.V → View → Type 0
        After w y = Happened v x b (client_of w (replies (waits (g.ticket response) v.timers.next waiting a, y)))

        by : (s : Option (g.V × View)) → IfLeft After s → IfSome g (Happened v x b) (option_and_then (λ z. Some (accepts (machine_of g.T g.ticket g.stale) v.timers.next a.next response a z)) s)
        by None l = tt
        by (Some z) l = l

    pub asks_it : IfSome g (Happened v x b) (asks_request (machine_of g.T g.ticket g.stale) (g.c).timeout r (client_of u (a, v)))
    asks_it = by_next (can_draw a.next)
      where
        by_timer : (s : Bool) → IfSome g (Happened v x b) (option_and_then (sends (machine_of g.T g.ticket g.stale) r (client_of u (a, v)) v.timers.next) (if s then Some timed else None))
        by_timer false = tt
        by_timer true = accepted

        by_next : (s : Bool) → IfSome g (Happened v x b) (if s then option_and_then (sends (machine_of g.T g.ticket g.stale) r (client_of u (a, v)) v.timers.next) (sets_timer (v.now + (g.c).timeout) (record v { request = a.next })) else None)
        by_next false = tt
        by_next true = by_timer (can_draw v.timers.next)
