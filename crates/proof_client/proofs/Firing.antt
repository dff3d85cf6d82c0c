-- A timer fires: a deadline, or one of the transport.
use Rattle.std.proofs.Common.{◌≡◌, ℕ, ◌+◌, ◌<◌, ◌≤◌, true, false, is_some, List, [], ◌∷◌, ◌++◌, length, map, Option, Some, None, Ok, Err, refl, sym, ap, ap₂, subst, subst₂, ◌∙◌, arith, append_assoc}
use Rattle.std.specs.Prelude.{option_and_then}
use Rattle.client_request.specs.Composed.{composed}
use Rattle.client_request.specs.Numbered.{entry_at, frees}
use Rattle.client_request.specs.Timers.{cancelled, without_timer}
use Rattle.client_request.specs.View.{View, due_timer}
use Rattle.client_request.specs.declared.board.Posted.{Posted as OnBoard}
use Rattle.client_request.specs.declared.error.Error.TheVariants.{TimedOut}
use Rattle.client_request.specs.declared.event.Out.{Out}
use Rattle.client_request.specs.declared.event.Out.TheVariants.{Stale, Reply}
use Rattle.client_request.specs.declared.event.What.{What}
use Rattle.right_trace.specs.Messages.{Octets}
use Rattle.proof_right.specs.machine.Client.{Leaving, Waiting as Held, Move, Times_out, Revives, Replies, leave, revive, unmade, with_held}
use Rattle.right_trace.specs.Updates.{with_at}
use Rattle.proof_parts.specs.ClientTie.{StandsIn, LeadsBeside, Then, Leaves, LeavesQuietly, reply_of}
use Rattle.proof_parts.specs.PartTie.{Phase, Untold, Told, Passed as IsPassed, Leads as IfLeft}
use Rattle.proof_parts.specs.Sights.{sight, due_of, IsFair}
use Rattle.proof_client.specs.Above.{Tying}
use Rattle.client_steps.specs.Client.{client_of, late_reply, settles, hears, times_out, fire, fires_at, without_late, replies, replies_many}
use Rattle.client_steps.specs.Machines.{machine_of}
use Rattle.client_steps.specs.declared.asked.Waiting.{Waiting}
use Rattle.client_steps.proofs.Tables.{frees_nothing}
use Rattle.client_steps.proofs.TimerLaws.{due_without}
use Rattle.proof_client.proofs.Calling.{Called, after_call, stand_on, PlainClient, Comes, comes_of, comes_then}
use Rattle.proof_client.proofs.Desk.{IsKept, as_before, at_other, both_are, none_is, was_there, go_on}
use Rattle.proof_client.proofs.Giving.{named_before}
use Rattle.proof_client.proofs.Holding.{Requests, State, Kept, IsFor, Holds, Fits, holds_without, tied_without, fair_without, desk_of}
use Rattle.proof_client.proofs.Leading.{one_move}

-- what holds of all that a call leaves
pub left_on : {U : Type 0} (A B : U → View → Type 0) (o : Option (U × View)) → ((u : U) (v : View) → A u v → B u v) → IfLeft A o → IfLeft B o
left_on A B None f l = tt
left_on A B (Some x) f l = f x.0 x.1 l

-- what is there
pub there : {A : Type 0} → (o : Option A) → is_some o ≡ true → (a : A) × (o ≡ Some a)
there None e = absurd (cc)
there (Some a) e = (a, refl)

-- what is put out of a request whose deadline passed
abbrev pub late_outs : (number : ℕ) → Option Octets → List Out
late_outs n None = Reply n (Err TimedOut) ∷ []
late_outs n (Some m) = Stale n ∷ Reply n (Ok m) ∷ []

late_is : (n : ℕ) (o : Option Octets) (v : View) → late_reply n o v ≡ record v { outs = v.outs ++ late_outs n o }
late_is n None v = refl
late_is n (Some m) v = ap (λ (os : List Out). record v { outs = os }) (append_assoc v.outs (Stale n ∷ []) (Reply n (Ok m) ∷ []))

module _ (g : Tying) where
  -- C holds of the client that comes, if one does
  abbrev pub IfSome : (PlainClient g → Type 0) → Option (PlainClient g) → Type 0
  IfSome C None = Unit {0}
  IfSome C (Some d) = C d

  pub some_then : (A B : PlainClient g → Type 0) (k : PlainClient g → Option (PlainClient g)) (o : Option (PlainClient g)) → IfSome A o → ((d : PlainClient g) → A d → IfSome B (k d)) → IfSome B (option_and_then k o)
  some_then A B k None l f = tt
  some_then A B k (Some d) l f = f d l

  pub some_on : (A B : PlainClient g → Type 0) (o : Option (PlainClient g)) → IfSome A o → ((d : PlainClient g) → A d → B d) → IfSome B o
  some_on A B None l f = tt
  some_on A B (Some d) l f = f d l

  -- what a call of the transport is to the client
  pub heard : (C : PlainClient g → Type 0) (a : Requests g) (o : Option (g.V × View)) → IfLeft (λ w y. C (client_of w (replies (a, y)))) o → IfSome C (settles a o)
  heard C a None l = tt
  heard C a (Some x) l = l

  pub given_up : (C : PlainClient g → Type 0) (a : Requests g) (o : Option (g.V × View)) → IfLeft (λ w y. C (client_of w (a, y))) o → IfSome C (option_and_then (λ x. Some (client_of x.0 (a, x.1))) o)
  given_up C a None l = tt
  given_up C a (Some x) l = l

  -- none of those who are tried is at the timeout
  abbrev pub AreInTime : State g → Type 0
  AreInTime x = (k : ℕ) (a : Held) → x.held k ≡ Some a → x.now < a.moment + (g.c).timeout

  -- once the event was told, no deadline is due
  abbrev pub MayFire : Phase → State g → Type 0
  MayFire (Untold w) x = Unit {0}
  MayFire (Told p left) x = AreInTime x
  MayFire (IsPassed w) x = AreInTime x

  module _ (phase : Phase) (e : What) (u : g.V) (a : Requests g) (v : View) (x : State g) (b : Kept g) (f : Fits g phase e (g.names u) u [] a v x b) (board : v.board ≡ []) (i due : ℕ) (set : due_of i v.timers.set ≡ Some due) (passed : due ≤ v.now) where
    -- the transport's own timer
    own_fires : entry_at i a.deadlines ≡ None → IfSome (Comes g phase e (record v { timers = cancelled i v.timers }) x b) (hears (machine_of g.T g.ticket g.stale) (due_timer i) (client_of u (a, record v { timers = cancelled i v.timers })))
    own_fires none =
        heard (Comes g phase e after x b) a (g.T.step (due_timer i) u after)
        (left_on (Leaves g.st g.P g.B g.T g.IsHanded g.Tied g.names g.Owns (g.names u) x x b u after phase) (λ w y. Comes g phase e after x b (client_of w (replies (a, y)))) (g.T.step (due_timer i) u after)
        (λ w y l. comes_of g phase e w after y.more x b (replies (a, y)) (after_call g phase e (g.names u) u a after x x b w y holds f.leaving (fair_without g v i f.fair) board l
        (stand_on g a u w (named_before (g.names u) l.board (map reply_of l.leaving) (g.names w) l.gives))))
        (g.tie.fires phase u v x b i due f.tied f.leaving f.fair set passed))
      where
        after : View
        after = record v { timers = cancelled i v.timers }

        holds : Holds g e (g.names u) u a (record v { timers = cancelled i v.timers }) x
        holds = record {
          now = f.holds.now;
          asked = f.holds.asked;
          pending = f.holds.pending;
          kept = go_on (g.c).timeout (IsFor g u) a.next (desk_of g (g.names u) a v x) (λ j. due_of j (without_timer i v.timers.set)) x.held f.holds.kept
              (λ t k d is s. due_without i t 0 v.timers.next v.timers.set f.fair.order ∙ (at_other i None (λ (j : ℕ). due_of j v.timers.set) t (λ same. none_is (entry_at i a.deadlines) k none (subst (λ t. entry_at t a.deadlines ≡ Some k) (sym same) is)) ∙ s))
              (as_before x.held);
          waiting = f.holds.waiting;
          deadlines = f.holds.deadlines;
          foreign = f.holds.foreign;
        }

    -- a deadline
    module _ (k : ℕ) (is : entry_at i a.deadlines ≡ Some k) (w : Waiting g.Q) (waits : entry_at k a.waiting ≡ Some w) (timer : w.timer ≡ i) where
      mine : IsKept (g.c).timeout (IsFor g u) a.next (desk_of g (g.names u) a v x) k w
      mine = f.holds.kept.kept k w waits

      -- as the machine has it
      ask : (a : Held) × (x.held w.number ≡ Some a)
      ask = there (x.held w.number) (g.tie.named phase u (sight v) x b k w.number f.tied mine.named).1

      is_late : (ask.0).moment + (g.c).timeout ≤ x.now
      is_late = subst₂ (λ d n. d ≤ n) (both_are (due_of i v.timers.set) due mine.due set (subst (λ t. due_of t v.timers.set ≡ Some mine.due) timer mine.set) ∙ mine.timely ask.0 ask.1) (sym f.holds.now) passed

      -- once the event was told, this is none
      pub none_late : AreInTime x → ⊥
      none_late early = not_both x.now ((ask.0).moment + (g.c).timeout) (early w.number ask.0 ask.1) is_late
        where
          not_both : (a b : ℕ) → a < b → b ≤ a → ⊥
          not_both a b lt le = omega arith

  module _ (row e : What) (u : g.V) (a : Requests g) (v : View) (x : State g) (b : Kept g) (f : Fits g (Untold row) e (g.names u) u [] a v x b) (board : v.board ≡ []) (i due : ℕ) (set : due_of i v.timers.set ≡ Some due) (passed : due ≤ v.now)
      (k : ℕ) (is : entry_at i a.deadlines ≡ Some k) (w : Waiting g.Q) (waits : entry_at k a.waiting ≡ Some w) (timer : w.timer ≡ i) where
    abbrev own : IsKept (g.c).timeout (IsFor g u) a.next (desk_of g (g.names u) a v x) k w
    own = f.holds.kept.kept k w waits

    abbrev asking : (a : Held) × (x.held w.number ≡ Some a)
    asking = ask (Untold row) e u a v x b f board i due set passed k is w waits timer

    abbrev after : View
    after = record v { timers = cancelled i v.timers }

    -- what stands in for its result
    abbrev instead : Option Octets
    instead = g.stale w.response u after

    abbrev reply : View
    reply = record after { outs = v.outs ++ late_outs w.number instead }

    abbrev late : Leaving
    late = record { request = w.number; asked = (asking.0).request; result = Err TimedOut; given = Err TimedOut; is_stored = false; stale = None }

    abbrev left : State g
    left = record x { held = with_held w.number None x.held; leaving = [] }

    -- it times out, and its reply is put out

    abbrev times_it : Move g.c g.st composed g.P x (unmade (leave late x))
    times_it = Times_out w.number asking.0 asking.1 (is_late (Untold row) e u a v x b f board i due set passed k is w waits timer)

    leaves_it : (leave late x).leaving ≡ [] ++ late ∷ []
    leaves_it = ap (λ (l : List Leaving). l ++ late ∷ []) f.leaving

    told_so : StandsIn g.st x.now (asking.0).request (x.expired w.number) instead
    told_so =
        g.tie.expires u after x b row w.response w.number asking.0 (tied_without g (Untold row) e (g.names u) u a v x b i k f.fair f.holds is f.tied)
        (subst (λ n. g.names u n ≡ Some w.number) (sym (own.response).0) own.named) ((own.response).1 w.number own.named) asking.1

    late_leads : (o : Option Octets) → StandsIn g.st x.now (asking.0).request (x.expired w.number) o → LeadsBeside g.st g.P g.B x b (late_outs w.number o) left b
    late_leads None none = Then x b (unmade (leave late x)) b (late_outs w.number None) left b times_it ((g.B).below x (unmade (leave late x)) times_it b tt)
        (one_move g.st g.P g.B (leave late x) b (record { state = left; outs = late_outs w.number None }) b (Replies [] [] late leaves_it) ((g.B).unstored (leave late x) [] [] late leaves_it b refl (λ n fails. none)))
    late_leads (Some m) old = Then x b (unmade (leave late x)) b (late_outs w.number (Some m)) left b times_it ((g.B).below x (unmade (leave late x)) times_it b tt)
        (Then (leave late x) b (unmade (record (leave late x) { leaving = revive m late ∷ [] })) b (late_outs w.number (Some m)) left b
        (Revives [] [] late old.0 m leaves_it refl old.1 old.2) ((g.B).revives (leave late x) [] [] late old.0 m leaves_it refl old.1 old.2 b)
        (one_move g.st g.P g.B (record (leave late x) { leaving = revive m late ∷ [] }) b (record { state = left; outs = late_outs w.number (Some m) }) b (Replies [] [] (revive m late) refl)
        ((g.B).unstored (record (leave late x) { leaving = revive m late ∷ [] }) [] [] (revive m late) refl b refl (λ n. absurd (not_none m n)))))
      where
        not_none : (m : Octets) → Some m ≡ None → ⊥
        not_none m e = cc

    leads_there : LeadsBeside g.st g.P g.B x b (late_outs w.number instead) left b
    leads_there = late_leads instead told_so

    holds_left : Holds g e (with_at (g.ticket w.response) None (g.names u)) u (without_late i (Some k) a) reply left
    holds_left =
        subst (λ n. Holds g e (with_at n None (g.names u)) u (without_late i (Some k) a) reply left) (sym (own.response).0)
        (subst (λ t. Holds g e (with_at k None (g.names u)) u (record a { waiting = frees k a.waiting; deadlines = frees t a.deadlines }) reply left) timer
        (holds_without g e (g.names u) u a v x k w reply left f.fair f.holds waits
        (record { now = refl; timers = ap (λ t. cancelled t v.timers) (sym timer); clock = refl; asked = refl; pending = refl; held = λ j c h. (c, (was_there w.number x.held j c h).1, refl) })))

    fair_left : IsFair reply
    fair_left = record { order = (fair_without g v i f.fair).order; words = f.fair.words }

    nothing_to_reply : (a : Requests g) (y : View) → y.board ≡ [] → replies (a, y) ≡ (a, y)
    nothing_to_reply a y none = ap (λ (c : List OnBoard). replies_many (length c) (a, y)) none

    -- the request is given up, and nothing is given
    is_cancelled : (w' : g.V) (y : View) → LeavesQuietly g.st g.P g.B g.T g.IsHanded g.Tied g.names g.Owns (with_at (g.ticket w.response) None (g.names u)) left b u reply (Untold row) w' y
        → Comes g (Untold row) e (record v { timers = cancelled i v.timers }) x b (client_of w' (without_late i (Some k) a, y))
    is_cancelled w' y l =
        comes_then g (Untold row) e (record v { timers = cancelled i v.timers }) reply x b (client_of w' (without_late i (Some k) a, y)) left b (late_outs w.number instead) leads_there refl refl
        (comes_of g (Untold row) e w' reply y.more left b (without_late i (Some k) a, y)
        (subst (λ r. Called g (Untold row) e w' reply y.more left left b r) (nothing_to_reply (without_late i (Some k) a) y (l.leaves.posted ∙ ap₂ (λ (c d : List OnBoard). c ++ d) board l.nothing))
        (after_call g (Untold row) e (with_at (g.ticket w.response) None (g.names u)) u (without_late i (Some k) a) reply left left b w' y holds_left refl fair_left board l.leaves
        (stand_on g (without_late i (Some k) a) u w' (λ j n named. (was_there (g.ticket w.response) (g.names u) j n
        (named_before (with_at (g.ticket w.response) None (g.names u)) l.leaves.board (map reply_of l.leaves.leaving) (g.names w') l.leaves.gives j n named)).1)))))

    times_it_out : IfSome (Comes g (Untold row) e (record v { timers = cancelled i v.timers }) x b) (times_out (machine_of g.T g.ticket g.stale) (client_of u (without_late i (Some k) a, record v { timers = cancelled i v.timers })) (Some w))
    times_it_out =
        subst (λ y. IfSome (Comes g (Untold row) e (record v { timers = cancelled i v.timers }) x b) (option_and_then (λ z. Some (client_of z.0 (without_late i (Some k) a, z.1))) (g.T.cancel w.response u y))) (sym (late_is w.number instead after))
        (given_up (Comes g (Untold row) e (record v { timers = cancelled i v.timers }) x b) (without_late i (Some k) a) (g.T.cancel w.response u reply)
        (left_on (LeavesQuietly g.st g.P g.B g.T g.IsHanded g.Tied g.names g.Owns (with_at (g.ticket w.response) None (g.names u)) left b u reply (Untold row))
        (λ w' y. Comes g (Untold row) e (record v { timers = cancelled i v.timers }) x b (client_of w' (without_late i (Some k) a, y))) (g.T.cancel w.response u reply)
        is_cancelled
        (g.tie.cancels u reply x left b row w.response w.number (tied_without g (Untold row) e (g.names u) u a v x b i k f.fair f.holds is f.tied) f.leaving fair_left
        (subst (λ n. g.names u n ≡ Some w.number) (sym (own.response).0) own.named) ((own.response).1 w.number own.named)
        (record { held = refl; ups = refl; place = refl; board = refl; now = refl; asked = refl; leaving = sym f.leaving; stored = refl; expired = refl }))))

  module _ (phase : Phase) (e : What) (u : g.V) (a : Requests g) (v : View) (x : State g) (b : Kept g) (f : Fits g phase e (g.names u) u [] a v x b) (board : v.board ≡ []) (i due : ℕ) (set : due_of i v.timers.set ≡ Some due) (passed : due ≤ v.now) (may : MayFire phase x) where
    -- what one timer does
    abbrev Fired : Option (PlainClient g) → Type 0
    Fired o = IfSome (Comes g phase e (record v { timers = cancelled i v.timers }) x b) o

    deadline_fires : (k : ℕ) (w : Waiting g.Q) → entry_at i a.deadlines ≡ Some k → entry_at k a.waiting ≡ Some w → w.timer ≡ i → Fired (times_out (machine_of g.T g.ticket g.stale) (client_of u (without_late i (Some k) a, record v { timers = cancelled i v.timers })) (Some w))
    deadline_fires k w is waits timer = by phase f may
      where
        by : (phase : Phase) → Fits g phase e (g.names u) u [] a v x b → MayFire phase x → IfSome (Comes g phase e (record v { timers = cancelled i v.timers }) x b) (times_out (machine_of g.T g.ticket g.stale) (client_of u (without_late i (Some k) a, record v { timers = cancelled i v.timers })) (Some w))
        by (Untold row) f may = times_it_out row e u a v x b f board i due set passed k is w waits timer
        by (Told p left) f may = absurd (none_late (Told p left) e u a v x b f board i due set passed k is w waits timer may)
        by (IsPassed row) f may = absurd (none_late (IsPassed row) e u a v x b f board i due set passed k is w waits timer may)

    pub one_fires : Fired (fire (machine_of g.T g.ticket g.stale) i (client_of u (a, record v { timers = cancelled i v.timers })))
    one_fires = by (entry_at i a.deadlines) refl
      where
        by : (o : Option ℕ) → entry_at i a.deadlines ≡ o → Fired (fires_at (machine_of g.T g.ticket g.stale) i (client_of u (a, record v { timers = cancelled i v.timers })) o)
        by None none = subst (λ ds. Fired (hears (machine_of g.T g.ticket g.stale) (due_timer i) (client_of u (record a { deadlines = ds }, record v { timers = cancelled i v.timers }))))
            (sym (frees_nothing i a.deadlines none)) (own_fires phase e u a v x b f board i due set passed none)
        by (Some k) is =
            let l = f.holds.kept.late i k is in
            subst (λ o. Fired (times_out (machine_of g.T g.ticket g.stale) (client_of u (without_late i (Some k) a, record v { timers = cancelled i v.timers })) o)) (sym l.1)
            (deadline_fires k l.0 is l.1 l.2)
