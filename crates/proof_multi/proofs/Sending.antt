-- A request is taken on, and handed on.
use Rattle.std.proofs.Common.{◌≡◌, ℕ, ◌+◌, ◌<◌, ◌≤◌, ◌⊎◌, inl, inr, Bool, true, false, List, [], ◌∷◌, ◌++◌, Some, None, refl, sym, ap, subst, ◌∙◌, arith, le_refl, le_trans}
use Rattle.std.specs.Prelude.{if◌then◌else◌, option_and_then, option_map}
use Rattle.client_request.specs.Carries.{IsOfOctets}
use Rattle.client_request.specs.Numbered.{puts, entry_at}
use Rattle.client_request.specs.Request.{Request}
use Rattle.client_request.specs.Requests.{for_one}
use Rattle.client_request.specs.Timers.{with_timer, can_draw}
use Rattle.client_request.specs.View.{View}
use Rattle.client_multi.specs.Links.{Link, one_stream}
use Rattle.client_multi.specs.MultiStream.{takes, hands}
use Rattle.right_settings.specs.Given.{streams_of}
use Rattle.proof_right.proofs.Received.{waits_on}
use Rattle.client_multi.specs.declared.multi_stream.job.Job.{Job}
use Rattle.client_multi.specs.declared.multi_stream.job.Stage.TheVariants.{Waiting}
use Rattle.right_trace.specs.Messages.{Octets}
use Rattle.right_trace.specs.Time.{stream_timeout}
use Rattle.proof_right.specs.machine.Part.{Act}
use Rattle.proof_right.specs.machine.Streams.{Free, Asker, Multi}
use Rattle.right_trace.specs.Updates.{with_at}
use Rattle.proof_parts.specs.Connections.{timer_of, dues}
use Rattle.proof_parts.specs.PartTie.{Leads, GoesOn}
use Rattle.proof_parts.specs.Runs.{Runs}
use Rattle.proof_parts.proofs.GoingOn.{goes_set, goes_then, dues_set, none_next}
use Rattle.proof_parts.proofs.Keys.{with_here, with_there, is_or_was, each_number}
use Rattle.proof_parts.proofs.Tables.{at_puts, sorted_puts, rises_below, absent_above}
use Rattle.proof_multi.specs.Servers.{Desk, Server, desk_of, numbers, UnderWay, nothing_under_way, IsToHand, JobFits, AreTables, NoneHeard, Owns, Stands}
use Rattle.proof_multi.proofs.Changing.{Change, kept_link, changed}
use Rattle.proof_multi.proofs.Desks.{desk_with, away_none, away_so}
use Rattle.proof_multi.proofs.Going.{Went, leads_as}
use Rattle.proof_multi.proofs.Hands.{puts_here, puts_there, link_due, not_next, same_job}
use Rattle.proof_multi.proofs.Holding.{hands_so}
use Rattle.right_trace.specs.Trace.{Conf}

-- request k, which is r, is handed to the machine at moment n
abbrev pub taken_in : (k n : ℕ) → Request → Multi → Multi
taken_in k n r m = record m { asks = with_at k (Some (record { request = r; since = n; phase = Free })) m.asks }

-- What is left once a request was taken on.
pub record Sent (c : Conf) (server : ℕ) (frames : ℕ → List Octets) (r : Request) (d : Desk) (m : Multi) (v : View) (t : Server) (w : View) : Type 0 where
  pub made : Act Multi
  pub runs : Runs c server v.now v.place (taken_in v.request v.now r m) made
  pub posts : made.posts ≡ []
  pub outs : w.outs ≡ v.outs ++ made.outs
  pub place : w.place ≡ made.place
  pub board : w.board ≡ v.board
  pub stands : Stands c nothing_under_way (desk_of t) t made.state frames w
  pub on : GoesOn v w
  pub drawn : v.ticket < w.ticket
  pub more : w.more ≡ v.more
  pub owned : (i : ℕ) → Owns (desk_of t) i → Owns d i ⊎ (v.timers.next ≤ i)
  pub others : (i due : ℕ) → (Owns d i → ⊥) → dues v i ≡ Some due → dues w i ≡ Some due
  pub named : (u : ℕ) → numbers (desk_of t) u ≡ with_at v.ticket (Some v.request) (numbers d) u
  pub quiet : NoneHeard m → NoneHeard made.state

module _ (c : Conf) (server : ℕ) (frames : ℕ → List Octets) (s : Server) (m : Multi) (v : View) (st : Stands c nothing_under_way (desk_of s) s m frames v) (quiet : NoneHeard m) (r : Request) (octets : IsOfOctets r) (free : m.asks v.request ≡ None) where
  abbrev d : Desk
  d = desk_of s

  abbrev T : AreTables c nothing_under_way d m (dues v)
  T = st.server.tables

  abbrev k : ℕ
  k = v.request

  abbrev t0 : ℕ
  t0 = v.ticket

  abbrev i0 : ℕ
  i0 = v.timers.next

  abbrev due : ℕ
  due = v.now + stream_timeout c

  abbrev job : Job Request
  job = record { number = k; request = r; back_offs = 0; end = i0; stage = Waiting }

  abbrev s1 : Server
  s1 = record s { timers = puts i0 t0 s.timers }

  abbrev a : Asker
  a = record { request = r; since = v.now; phase = Free }

  abbrev n : Multi
  n = taken_in k v.now r m

  abbrev w1 : View
  w1 = record v { ticket = t0 + 1; timers = with_timer due v.timers }

  abbrev z : UnderWay
  z = record { todo = (t0, Free) ∷ []; failed = [] }

  abbrev e : Desk
  e = desk_with t0 job s1

  up : (n : ℕ) → n ≤ n + 1
  up n = omega arith

  over : (n : ℕ) → n < n + 1
  over n = omega arith

  least : (n : ℕ) → 0 ≤ n
  least n = omega arith

  later : v.now < due
  later = more v.now (stream_timeout c) (waits_on c)
    where
      more : (n t : ℕ) → 999 < t → n < n + t
      more n t long = omega arith

  none : entry_at t0 s.jobs ≡ None
  none = absent_above 0 t0 t0 s.jobs (le_refl t0) st.order.jobs

  no_job : (j : Job Request) → entry_at t0 s.jobs ≡ Some j → ⊥
  no_job j q = let x : None ≡ Some j = sym none ∙ q in cc

  here : e.jobs t0 ≡ Some job
  here = with_here t0 (Some job) (λ j. entry_at j s.jobs)

  beside : (u : ℕ) → (t0 ≡ u → ⊥) → e.jobs u ≡ entry_at u s.jobs
  beside u ne = with_there t0 (Some job) (λ j. entry_at j s.jobs) u ne

  due_here : dues w1 i0 ≡ Some due
  due_here = dues_set v due i0 st.fair ∙ with_here i0 (Some due) (dues v)

  due_there : (i : ℕ) → (i0 ≡ i → ⊥) → dues w1 i ≡ dues v i
  due_there i ne = dues_set v due i st.fair ∙ with_there i0 (Some due) (dues v) i ne

  not_new : (i u : ℕ) → entry_at i s.timers ≡ Some u → i0 ≡ i → ⊥
  not_new i u tm q = let x : None ≡ Some u = sym (absent_above 0 i0 i s.timers (at_most i0 i q) st.order.timers) ∙ tm in cc
    where
      at_most : (a b : ℕ) → a ≡ b → a ≤ b
      at_most a b e = omega arith

  asked_is : n.asks k ≡ Some a
  asked_is = with_here k (Some a) m.asks

  fits : JobFits c z e n (dues w1) t0 job
  fits = record { ask = a; is = asked_is; request = refl; octets = octets; end = puts_here i0 t0 s.timers; over = due_here; stage = IsToHand (inl (refl, refl)) refl (inl refl) }

  old_timer : (i u : ℕ) → entry_at i (puts i0 t0 s.timers) ≡ Some u → ((i0 ≡ i) × (t0 ≡ u)) ⊎ (entry_at i s.timers ≡ Some u)
  old_timer i u tm = elim (is_or_was i0 (Some t0) (λ j. entry_at j s.timers) i u (sym (at_puts i0 t0 i s.timers) ∙ tm)) [ inl b ↦ inl (b.0, (let q = b.1 in cc)) | inr b ↦ inr b.1 ]

  change : Change c t0 k nothing_under_way z d e m n (dues v) (dues w1)
  change = record {
    jobs = beside;
    timers = λ i u ne tm. (puts_there i0 t0 s.timers i (not_new i u tm) ∙ tm, due_there i (not_new i u tm));
    timers_back = λ i u ne tm. elim (old_timer i u tm) [ inl b ↦ absurd (ne b.1) | inr b ↦ b ];
    inner = λ i u ne q. q;
    inner_back = λ i u ne q. q;
    waiting = λ u ne l. l;
    waiting_back = λ u ne l. l;
    asks = λ j ne. with_there k (Some a) m.asks j ne;
    todo = λ u phase ne l. absurd l;
    todo_back = λ u phase ne l. elim l [ inl q ↦ absurd (ne q.0) | inr q ↦ absurd q ];
    failed = λ i u ne q l. l;
    own = λ u j q same. (let x = T.jobs u j q in absurd (let y : None ≡ Some x.ask = sym free ∙ (ap m.asks (sym same) ∙ x.is) in cc));
    number = λ j q. absurd (no_job j q);
    fits = λ j q. (let x : job ≡ j = same_job (e.jobs t0) job j here q in (subst (λ j. JobFits c z e n (dues w1) t0 j) x fits, sym (ap (λ (j : Job Request). j.number) x)));
    asked = λ b q. (job, here);
    own_timers = λ i tm. elim (old_timer i t0 tm) [ inl b ↦ (job, here, inl b.0) | inr b ↦ (let o = T.timers i t0 b in absurd (no_job o.0 o.1)) ];
    own_inner = λ i q. (let o = T.inner i t0 q in absurd (no_job o.0 o.2));
    own_waiting = λ l. (let o = T.waiting t0 l in absurd (no_job o.0 o.2));
    own_todo = λ phase l. elim l [ inl q ↦ (job, a, here, refl, asked_is, q.1, inl (sym q.1)) | inr q ↦ absurd q ];
    failing = λ i j l named. absurd l;
    opening = T.opening;
    calm = T.calm;
  }

  not_link : (p : ℕ) (l : Link Request) (i : ℕ) → entry_at p s.connections ≡ Some l → timer_of l.line.stage ≡ Some i → i0 ≡ i → ⊥
  not_link p l i q mine = let o = link_due c d m frames (dues v) v.ticket p l i (st.server.links p) q mine in not_next v i o.0 st.fair o.1

  on1 : GoesOn v w1
  on1 = let g = goes_set v due later st.fair in record { fair = record { order = g.fair.order; words = g.fair.words }; now = refl; timer = g.timer; ticket = up t0; place = le_refl v.place; later = g.later }

  stands : Stands c z e s1 n frames w1
  stands = record {
    server = record {
      tables = changed c t0 k nothing_under_way z d e m n frames (dues v) (dues w1) v.ticket (v.ticket + 1) T change;
      links = λ p. kept_link c t0 k nothing_under_way z d e m n frames (dues v) (dues w1) v.ticket (v.ticket + 1) T change frames p refl refl refl (away_none p (m.asks k) free) (away_so p (n.asks k) a asked_is (λ q. q))
          (λ l i q mine. due_there i (not_link p l i q mine)) (up v.ticket) (st.server.links p);
      watched = λ p l i q mine. (let b = st.server.watched p l i q mine in (b.0, puts_there i0 t0 s.timers i (not_link p l i q mine) ∙ b.1));
    };
    order = record {
      jobs = rises_below (λ (e : ℕ × Job Request). e.0) 0 v.ticket (v.ticket + 1) s.jobs (up v.ticket) st.order.jobs;
      timers = sorted_puts i0 t0 0 (i0 + 1) s.timers (least i0) (over i0) (rises_below (λ (e : ℕ × ℕ). e.0) 0 i0 (i0 + 1) s.timers (up i0) st.order.timers);
      inner = rises_below (λ (e : ℕ × ℕ). e.0) 0 v.ticket (v.ticket + 1) s.inner (up v.ticket) st.order.inner;
      waiting = rises_below (λ (t : ℕ). t) 0 v.ticket (v.ticket + 1) s.waiting (up v.ticket) st.order.waiting;
      connections = st.order.connections;
      watches = rises_below (λ (e : ℕ × ℕ). e.0) 0 i0 (i0 + 1) s.watches (up i0) st.order.watches;
      opening = st.order.opening;
    };
    fair = on1.fair;
  }

  handed : Leads (Went c server frames nothing_under_way e n w1) (hands (one_stream for_one) server t0 job s1 w1)
  handed = hands_so c server frames t0 job [] s1 n w1 stands (over t0) (λ phase l. l) quiet

  sent : (t : Server) (w : View) → Went c server frames nothing_under_way e n w1 t w → Sent c server frames r d m v t w
  sent t w b = record {
    made = b.made;
    runs = b.runs;
    posts = b.posts;
    outs = b.outs;
    place = b.place;
    board = b.board;
    stands = b.stands;
    on = goes_then v w1 w on1 b.on;
    drawn = past v.ticket w.ticket b.on.ticket;
    more = b.more;
    owned = λ i o. elim (b.owned i o) [
      | inl q ↦ owns i q
      | inr le ↦ inr (le_trans (up i0) le)
    ];
    others = λ i x other q. b.others i x (λ o. elim (owns i o) [ inl p ↦ other p | inr le ↦ (let y : None ≡ Some x = sym (none_next v i st.fair le) ∙ q in cc) ]) (due_there i (not_next v i x st.fair q) ∙ q);
    named = λ u. b.named u ∙ named u;
    quiet = b.quiet;
  }
    where
      past : (n k : ℕ) → n + 1 ≤ k → n < k
      past n k le = omega arith

      owns : (i : ℕ) → Owns e i → Owns d i ⊎ (i0 ≤ i)
      owns i (inl o) = elim (old_timer i o.0 o.1) [ inl b ↦ inr (at_most i0 i b.0) | inr b ↦ inl (inl (o.0, b)) ]
        where
          at_most : (a b : ℕ) → a ≡ b → a ≤ b
          at_most a b e = omega arith
      owns i (inr o) = inl (inr o)

      named : (u : ℕ) → numbers e u ≡ with_at t0 (Some k) (numbers d) u
      named u = each_number (λ u. numbers e u ≡ with_at t0 (Some k) (numbers d) u) t0
          (ap (option_map (λ (j : Job Request). j.number)) here ∙ sym (with_here t0 (Some k) (numbers d)))
          (λ u ne. ap (option_map (λ (j : Job Request). j.number)) (beside u ne) ∙ sym (with_there t0 (Some k) (numbers d) u ne)) u

  pub sends_so : (several : ℕ) → Leads (Sent c server frames r d m v) (takes (one_stream for_one) server (streams_of several c) false r s v)
  sends_so several = by_ticket (can_draw v.ticket)
    where
      by_timer : (b : Bool) → Leads (Sent c server frames r d m v) (option_and_then (λ w. hands (one_stream for_one) server t0 job s1 w) (if b then Some w1 else None))
      by_timer false = tt
      by_timer true = leads_as (Went c server frames nothing_under_way e n w1) (Sent c server frames r d m v) (hands (one_stream for_one) server t0 job s1 w1) handed sent

      by_ticket : (b : Bool) → Leads (Sent c server frames r d m v) (option_and_then (λ w. option_and_then (λ u. hands (one_stream for_one) server t0 (record { number = w.request; request = r; back_offs = 0; end = w.timers.next; stage = Waiting }) (record s { timers = puts w.timers.next t0 s.timers }) u) (if can_draw w.timers.next then Some (record w { timers = with_timer (w.now + stream_timeout c) w.timers }) else None)) (if b then Some (record v { ticket = t0 + 1 }) else None))
      by_ticket false = tt
      by_ticket true = by_timer (can_draw v.timers.next)
