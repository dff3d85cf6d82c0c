-- A request backs off.
use Rattle.std.proofs.Common.{◌≡◌, ℕ, ◌+◌, ◌<◌, ◌≤◌, ◌⊎◌, inl, inr, Bool, true, false, List, ◌∷◌, Some, None, refl, sym, ap, subst, ◌∙◌, arith, le_refl, append-nil}
use Rattle.std.specs.Prelude.{option_and_then, if◌then◌else◌}
use Rattle.dns_values.specs.Source.{one_more}
use Rattle.client_request.specs.Numbered.{puts, entry_at}
use Rattle.client_request.specs.Request.{Request}
use Rattle.client_request.specs.Timers.{with_timer, can_draw}
use Rattle.client_request.specs.View.{View, drawn, word}
use Rattle.client_request.specs.declared.board.Posted.{Posted}
use Rattle.client_multi.specs.Links.{Link}
use Rattle.client_multi.specs.MultiStream.{backs_off, rests, once_more}
use Rattle.client_multi.specs.Retry.{retry_time}
use Rattle.client_multi.specs.declared.multi_stream.job.Job.{Job}
use Rattle.client_multi.specs.declared.multi_stream.job.Stage.TheVariants.{Resting}
use Rattle.right_trace.specs.Messages.{Octets}
use Rattle.right_trace.specs.Time.{back_off}
use Rattle.proof_right.specs.machine.Streams.{Phase, Free, Broken, BackingOff, Asker, Multi, Nothing, Moves, Meets, BacksOff, moved, move}
use Rattle.proof_parts.specs.Connections.{timer_of, dues, IsPostedTo}
use Rattle.proof_parts.specs.PartTie.{Leads, GoesOn}
use Rattle.proof_parts.specs.Sights.{sight, IsFair}
use Rattle.proof_parts.proofs.GoingOn.{goes_set, dues_set}
use Rattle.proof_parts.proofs.Keys.{with_here, with_there, is_or_was}
use Rattle.proof_parts.proofs.Running.{runs_one}
use Rattle.proof_parts.proofs.Tables.{at_puts, sorted_puts, rises_below, absent_above}
use Rattle.proof_parts.proofs.Waits.{back_off_is_short}
use Rattle.proof_multi.specs.Servers.{Desk, Server, desk_of, names_at, UnderWay, IsLoose, IsBroken, AtResting, JobFits, LinkFits, IsServer, AreOrderly, Stands}
use Rattle.proof_multi.proofs.Changing.{Change, kept_link, changed}
use Rattle.proof_multi.proofs.Desks.{desk_with, away_so, name_of, name_is}
use Rattle.proof_multi.proofs.Going.{Went, waits_now}
use Rattle.proof_multi.proofs.Hands.{InHand, hand_of, puts_beside, puts_here, puts_there, numbers_stay, link_due, not_next, same_job}
use Rattle.right_trace.specs.Trace.{Conf}

-- why a request may back off
abbrev pub MayRest : Phase → Multi → View → Type 0
MayRest ph m v = (ph ≡ Broken) ⊎ ((ph ≡ Free) × (v.now < m.calm))

module _ (c : Conf) (server : ℕ) (frames : ℕ → List Octets) (t : ℕ) (job : Job Request) (ph : Phase) (todo : List (ℕ × Phase)) (failed : List Posted) (s : Server) (m : Multi) (v : View)
    (st : Stands c (record { todo = (t, ph) ∷ todo; failed = failed }) (desk_with t (waits_now job) s) s m frames v) (below : t < v.ticket) (once : (phase : Phase) → IsLoose t phase todo → ⊥) (may : MayRest ph m v) where
  abbrev y : UnderWay
  y = record { todo = (t, ph) ∷ todo; failed = failed }

  abbrev z : UnderWay
  z = record { todo = todo; failed = failed }

  abbrev d : Desk
  d = desk_with t (waits_now job) s

  h : InHand c t job ph y s m v
  h = hand_of c frames t job ph todo y s m v refl st

  -- it is due then
  abbrev due : ℕ
  due = v.now + retry_time (one_more job.back_offs) (word v)

  abbrev i0 : ℕ
  i0 = v.timers.next

  abbrev w : View
  w = record (drawn v) { timers = with_timer due v.timers }

  abbrev to : Server
  to = rests t (once_more job) i0 s

  abbrev a : Asker
  a = h.its.ask

  abbrev n : Multi
  n = move job.number a (BackingOff due) m

  abbrev job2 : Job Request
  job2 = record (once_more job) { stage = Resting i0 }

  later : v.now < due
  later = more v.now (retry_time (one_more job.back_offs) (word v)) (back_off_is_short (one_more job.back_offs) (word v) (st.fair.words 0)).0
    where
      more : (n r : ℕ) → 0 < r → n < n + r
      more n r lt = omega arith

  soon : due < v.now + back_off
  soon = more v.now (retry_time (one_more job.back_offs) (word v)) back_off (back_off_is_short (one_more job.back_offs) (word v) (st.fair.words 0)).1
    where
      more : (n r b : ℕ) → r < b → n + r < n + b
      more n r b lt = omega arith

  fair_drawn : IsFair (drawn v)
  fair_drawn = record { order = st.fair.order; words = λ i. st.fair.words (i + 1) }

  on : GoesOn v w
  on = let g = goes_set (drawn v) due later fair_drawn in record { fair = g.fair; now = g.now; timer = g.timer; ticket = g.ticket; place = g.place; later = g.later }

  due_here : dues w i0 ≡ Some due
  due_here = dues_set (drawn v) due i0 fair_drawn ∙ with_here i0 (Some due) (dues v)

  due_there : (i : ℕ) → (i0 ≡ i → ⊥) → dues w i ≡ dues v i
  due_there i ne = dues_set (drawn v) due i fair_drawn ∙ with_there i0 (Some due) (dues v) i ne

  no_timer : (i u : ℕ) → entry_at i s.timers ≡ Some u → i0 ≡ i → ⊥
  no_timer i u is e = let none = absent_above 0 i0 i s.timers (at_most i0 i e) st.order.timers in let q : None ≡ Some u = sym none ∙ is in cc
    where
      at_most : (a b : ℕ) → a ≡ b → a ≤ b
      at_most a b e = omega arith

  old_timer : (i u : ℕ) → (t ≡ u → ⊥) → entry_at i (puts i0 t s.timers) ≡ Some u → entry_at i s.timers ≡ Some u
  old_timer i u ne is = elim (is_or_was i0 (Some t) (λ j. entry_at j s.timers) i u (sym (at_puts i0 t i s.timers) ∙ is)) [ inl b ↦ absurd (ne (let e = b.1 in cc)) | inr b ↦ b.1 ]

  fits : JobFits c z (desk_of to) n (dues w) t job2
  fits = record {
    ask = moved a (BackingOff due);
    is = with_here job.number (Some (moved a (BackingOff due))) m.asks;
    request = h.its.request;
    octets = h.its.octets;
    end = puts_there i0 t s.timers job.end (no_timer job.end t h.its.end) ∙ h.its.end;
    over = due_there job.end (no_timer job.end t h.its.end) ∙ h.its.over;
    stage = AtResting i0 due refl refl (puts_here i0 t s.timers) due_here;
  }

  change : Change c t job.number y z d (desk_of to) m n (dues v) (dues w)
  change = record {
    jobs = λ u ne. puts_beside t job2 (Some (waits_now job)) s.jobs u ne;
    timers = λ i u ne is. (puts_there i0 t s.timers i (no_timer i u is) ∙ is, due_there i (no_timer i u is));
    timers_back = λ i u ne is. old_timer i u ne is;
    inner = λ i u ne is. is;
    inner_back = λ i u ne is. is;
    waiting = λ u ne l. l;
    waiting_back = λ u ne l. l;
    asks = λ j ne. with_there job.number (Some (moved a (BackingOff due))) m.asks j ne;
    todo = λ u phase ne l. elim l [ inl e ↦ absurd (ne e.0) | inr l ↦ l ];
    todo_back = λ u phase ne l. inr l;
    failed = λ i u ne is posted. posted;
    own = h.own;
    number = h.number;
    fits = λ j is. (let e : job2 ≡ j = same_job (entry_at t (puts t job2 s.jobs)) job2 j (puts_here t job2 s.jobs) is in
        (subst (λ j. JobFits c z (desk_of to) n (dues w) t j) e fits, sym (ap (λ (j : Job Request). j.number) e)));
    asked = λ b is. (job2, puts_here t job2 s.jobs);
    own_timers = λ i is. (
      job2,
      puts_here t job2 s.jobs,
      elim (is_or_was i0 (Some t) (λ j. entry_at j s.timers) i t (sym (at_puts i0 t i s.timers) ∙ is)) [
        | inl b ↦ inr (ap Resting b.0)
        | inr b ↦ inl (h.ends i b.1)
      ],
    );
    own_inner = λ i is. absurd (h.inner i is);
    own_waiting = λ l. absurd (h.waiting l);
    own_todo = λ phase l. absurd (once phase l);
    failing = λ i j posted named. failing i j posted named;
    opening = st.server.tables.opening;
    calm = st.server.tables.calm;
  }
    where
      failing : (i j : ℕ) → IsPostedTo i failed → names_at (desk_of to) i ≡ Some j → IsBroken j n
      failing i j posted named =
          let o = name_of (desk_of to) i j named in
          let other : t ≡ o.0 → ⊥ = λ e. h.inner i (o.2 ∙ ap Some (sym e)) in
          let was : d.jobs o.0 ≡ Some o.1 = sym (puts_beside t job2 (Some (waits_now job)) s.jobs o.0 other) ∙ o.3 in
          let b = st.server.tables.failing i j posted (name_is d i o.0 o.1 o.2 was ∙ ap Some o.4) in
          (b.0, with_there job.number (Some (moved a (BackingOff due))) m.asks j (λ e. other (h.own o.0 o.1 was (o.4 ∙ sym e))) ∙ b.1, b.2)

  moves : (next : ℕ) → Moves c server v.now next m Nothing n
  moves next = elim may [
    | inl e ↦ BacksOff job.number a due h.its.is (h.phase ∙ e) later soon
    | inr e ↦ Meets job.number a due h.its.is (h.phase ∙ e.0) e.1 later soon
  ]

  not_own : (p : ℕ) (l : Link Request) (i : ℕ) → entry_at p s.connections ≡ Some l → timer_of l.line.stage ≡ Some i → i0 ≡ i → ⊥
  not_own p l i is own = let o = link_due c d m frames (dues v) v.ticket p l i (st.server.links p) is own in not_next v i o.0 st.fair o.1

  links : (p : ℕ) → LinkFits c (desk_of to) n frames (dues w) v.ticket p
  links p = kept_link c t job.number y z d (desk_of to) m n frames (dues v) (dues w) v.ticket v.ticket st.server.tables change frames p refl refl refl (h.away p)
      (away_so p (n.asks job.number) (moved a (BackingOff due)) (with_here job.number (Some (moved a (BackingOff due))) m.asks) (λ q. q))
      (λ l i is own. due_there i (not_own p l i is own)) (le_refl v.ticket) (st.server.links p)

  server_rests : IsServer c z (desk_of to) n frames (dues w) v.ticket
  server_rests = record {
    tables = changed c t job.number y z d (desk_of to) m n frames (dues v) (dues w) v.ticket v.ticket st.server.tables change;
    links = links;
    watched = λ p l i is own. (let o = st.server.watched p l i is own in (o.0, puts_there i0 t s.timers i (not_own p l i is own) ∙ o.1));
  }

  up : (n : ℕ) → n ≤ n + 1
  up n = omega arith

  order : AreOrderly to (sight w)
  order = record {
    jobs = sorted_puts t job2 0 v.ticket s.jobs (least t) below st.order.jobs;
    timers = sorted_puts i0 t 0 (i0 + 1) s.timers (least i0) (over i0) (rises_below (λ (e : ℕ × ℕ). e.0) 0 i0 (i0 + 1) s.timers (up i0) st.order.timers);
    inner = st.order.inner;
    waiting = st.order.waiting;
    connections = st.order.connections;
    watches = rises_below (λ (e : ℕ × ℕ). e.0) 0 i0 (i0 + 1) s.watches (up i0) st.order.watches;
    opening = st.order.opening;
  }
    where
      least : (n : ℕ) → 0 ≤ n
      least n = omega arith

      over : (n : ℕ) → n < n + 1
      over n = omega arith

  went : Went c server frames z d m v to w
  went = record {
    made = _;
    runs = runs_one c server v.now v.place m Nothing n (moves v.place);
    posts = refl;
    outs = sym (append-nil v.outs);
    place = refl;
    board = refl;
    more = refl;
    stands = record { server = server_rests; order = order; fair = on.fair };
    on = on;
    owned = λ i o. elim o [
      | inl x ↦ elim (is_or_was i0 (Some t) (λ j. entry_at j s.timers) i x.0 (sym (at_puts i0 t i s.timers) ∙ x.1)) [ inl b ↦ inr (at_most i0 i b.0) | inr b ↦ inl (inl (x.0, b.1)) ]
      | inr x ↦ inl (inr x)
    ];
    others = λ i e none is. due_there i (not_next v i e st.fair is) ∙ is;
    named = λ u. numbers_stay t d (desk_of to) (λ u ne. puts_beside t job2 (Some (waits_now job)) s.jobs u ne) (waits_now job) job2 h.here (puts_here t job2 s.jobs) refl u;
    quiet = λ q. q;
  }
    where
      at_most : (a b : ℕ) → a ≡ b → a ≤ b
      at_most a b e = omega arith

  pub rests_so : Leads (Went c server frames z d m v) (backs_off t job s v)
  rests_so = by (can_draw v.timers.next)
    where
      by : (b : Bool) → Leads (Went c server frames z d m v) (option_and_then (λ w. Some (rests t (once_more job) v.timers.next s, w)) (if b then Some w else None))
      by true = went
      by false = tt
