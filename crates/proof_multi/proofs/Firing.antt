-- A timer fires: a request's time is over, or it backed off long enough; or it is one of a connection, or of others.
use Rattle.std.proofs.Common.{◌≡◌, ℕ, ◌+◌, ◌≤◌, ◌⊎◌, inl, inr, Bool, true, false, ◌==◌, List, [], ◌∷◌, ◌++◌, Option, Some, None, refl, sym, ap, subst, ◌∙◌, arith, le_refl, append-nil}
use Rattle.std.specs.Prelude.{option_and_then, option_map, if◌then◌else◌, Err}
use Rattle.std.proofs.lemmas.Bool.Decides.{nat_tests}
use Rattle.client_request.specs.Numbered.{frees, entry_at}
use Rattle.client_request.specs.Request.{Request}
use Rattle.client_request.specs.Requests.{for_one}
use Rattle.client_request.specs.Timers.{cancelled}
use Rattle.client_request.specs.View.{View, due_timer, answers}
use Rattle.client_request.specs.declared.board.Posted.{Posted}
use Rattle.client_request.specs.declared.error.Error.TheVariants as errors
use Rattle.client_request.specs.declared.event.Out.TheVariants.{Close}
use Rattle.client_stream.specs.Plain.{has_ended, fires as line_fires, octets_left}
use Rattle.client_multi.specs.Links.{Link, one_stream}
use Rattle.client_multi.specs.MultiStream.{due, due_at, with_job, fires, times_out, leaves, hands, hears_at, calls, returns, taken, lent}
use Rattle.client_multi.specs.declared.multi_stream.job.Job.{Job}
use Rattle.client_multi.specs.declared.multi_stream.job.Stage.{Stage}
use Rattle.client_multi.specs.declared.multi_stream.job.Stage.TheVariants.{Waiting, Resting, Held}
use Rattle.right_trace.specs.Messages.{Octets}
use Rattle.right_trace.specs.Time.{stream_timeout}
use Rattle.proof_right.specs.machine.Streams as multi
use Rattle.proof_right.specs.machine.Streams.{Phase, Free, BackingOff, Conn, Multi, Nothing, Puts, Gives as GivesIt, GoesOn as GoesOnNow, TimesOut, moved, move, drop, end_at}
use Rattle.proof_parts.specs.Chains.{still, then_act}
use Rattle.proof_parts.specs.Connections.{timer_of, dues, HasFired, IsOthers, EndsByTimer}
use Rattle.proof_parts.specs.Lines.{SingleLine}
use Rattle.proof_parts.specs.Octets.{IsLinkAt}
use Rattle.proof_parts.specs.PartTie.{Leads}
use Rattle.proof_parts.specs.Reading.{Keeps}
use Rattle.proof_parts.specs.Runs.{Runs_on, Rests, made_by}
use Rattle.proof_parts.specs.Seats.{IsAway}
use Rattle.proof_parts.specs.Sights.{sight, IsFair}
use Rattle.proof_parts.proofs.Calling.{is_open}
use Rattle.proof_parts.proofs.GoingOn.{fair_without, dues_without}
use Rattle.proof_parts.proofs.Keys.{with_here, with_there, was_there}
use Rattle.proof_parts.proofs.Retiming.{timed_same}
use Rattle.proof_parts.proofs.Running.{runs_one}
use Rattle.proof_parts.proofs.Tables.{at_frees, sorted_frees, present_below}
use Rattle.proof_parts.proofs.Timers.{fires_so as line_fires_so}
use Rattle.proof_multi.specs.Servers.{Desk, Server, desk_of, numbers, names_at, UnderWay, nothing_under_way, IsThere, under, StageFits, AtWaiting, AtResting, AtHeld, HasFailed, IsToHand, JobFits, AreTables, NoneHeard, Owns, Stands}
use Rattle.proof_multi.proofs.Changing.{Change, kept_link, changed}
use Rattle.proof_multi.proofs.Desks.{desk_with, away_so}
use Rattle.proof_multi.proofs.Going.{Went, waits_now, leads_as, went_nowhere}
use Rattle.proof_multi.proofs.Hands.{same_job, numbers_stay}
use Rattle.proof_multi.proofs.Holding.{hands_so, link_at}
use Rattle.proof_multi.proofs.Leaving.{Dropped, leaves_so}
use Rattle.proof_multi.proofs.Retimed.{tables_retimed, link_retimed, server_retimed, order_up}
use Rattle.proof_multi.proofs.Serving.{Gone, went_gone}
use Rattle.proof_multi.proofs.Stepping.{AtWork, ended_call, kept_call, quiet_end}
use Rattle.right_trace.specs.Trace.{Conf}

-- a move that puts nothing out comes before
pub move_before : (c : Conf) (server : ℕ) (frames : ℕ → List Octets) (d e : Desk) (m n : Multi) (v : View) (t : Server) (w : View) → ((next : ℕ) → multi.Moves c server v.now next m Nothing n) → ((i : ℕ) → Owns e i → Owns d i) → ((u : ℕ) → numbers e u ≡ numbers d u) → (NoneHeard m → NoneHeard n)
    → Went c server frames nothing_under_way e n v t w → Went c server frames nothing_under_way d m v t w
move_before c server frames d e m n v t w moves owns named quiet b = record {
  made = then_act (made_by v.place Nothing n) b.made;
  runs = Runs_on v.place m Nothing n b.made (moves v.place) b.runs;
  posts = b.posts;
  outs = b.outs;
  place = b.place;
  board = b.board;
  more = b.more;
  stands = b.stands;
  on = b.on;
  owned = λ i o. elim (b.owned i o) [ inl p ↦ inl (owns i p) | inr le ↦ inr le ];
  others = λ i due free at. b.others i due (λ o. free (owns i o)) at;
  named = λ u. b.named u ∙ named u;
  quiet = λ q. b.quiet (quiet q);
}

module _ (c : Conf) (server : ℕ) (frames : ℕ → List Octets) (s : Server) (m : Multi) (v0 : View) (st : Stands c nothing_under_way (desk_of s) s m frames v0) (i at : ℕ) (set : dues v0 i ≡ Some at) (late : at ≤ v0.now) (quiet : (t : ℕ) → entry_at i s.timers ≡ Some t → NoneHeard m) where
  abbrev d : Desk
  d = desk_of s

  abbrev v : View
  v = record v0 { timers = cancelled i v0.timers }

  fair_v : IsFair v
  fair_v = fair_without v0 i st.fair

  due_there : (j : ℕ) → (i ≡ j → ⊥) → dues v j ≡ dues v0 j
  due_there j ne = dues_without v0 i j st.fair ∙ with_there i None (dues v0) j ne

  abbrev P : Server → View → Type 0
  P t w = Gone c server frames (numbers d) d m v t w

  abbrev T : AreTables c nothing_under_way d m (dues v0)
  T = st.server.tables

  -- one of a request
  module _ (t : ℕ) (own : entry_at i s.timers ≡ Some t) (job : Job Request) (is : entry_at t s.jobs ≡ Some job) where
    abbrev k : ℕ
    k = job.number

    its : JobFits c nothing_under_way d m (dues v0) t job
    its = T.jobs t job is

    abbrev less : Server
    less = record s { timers = frees i s.timers; jobs = frees t s.jobs }

    -- Its time is over
    over : i ≡ job.end → Leads P (times_out (one_stream for_one) t job less v)
    over e = subst (λ i. Leads (λ r w. Gone c server frames (numbers d) d m (record v0 { timers = cancelled i v0.timers }) r w) (times_out (one_stream for_one) t job (record s { timers = frees i s.timers; jobs = frees t s.jobs }) (record v0 { timers = cancelled i v0.timers }))) (sym e)
        (by (leaves (one_stream for_one) t job.stage (record s { jobs = frees t s.jobs; timers = frees job.end s.timers }) end_v) (leaves_so c server frames s m v0 st t job is))
      where
        end_v : View
        end_v = record v0 { timers = cancelled job.end v0.timers }

        is_over : its.ask.since + stream_timeout c ≤ v0.now
        is_over = let z : Some at ≡ Some (its.ask.since + stream_timeout c) = sym set ∙ (ap (dues v0) e ∙ its.over) in let q : at ≡ its.ask.since + stream_timeout c = cc in subst (λ n. n ≤ v0.now) q late

        gone : (r : Server) (w : View) → Dropped c t k frames d m end_v r w → Gone c server frames (numbers d) d m end_v r (answers t (Err errors.StreamReadTimeout) w)
        gone r w g = record {
          made = _;
          runs = runs_one c server v0.now v0.place m (GivesIt k (Err errors.StreamReadTimeout)) (drop k m) (TimesOut k its.ask its.is is_over);
          outs = g.outs ∙ sym (append-nil v0.outs);
          place = g.place;
          board = record { ticket = t; part = Err errors.StreamReadTimeout; is_stale = false } ∷ [];
          put = ap (λ (b : List Posted). b ++ record { ticket = t; part = Err errors.StreamReadTimeout; is_stale = false } ∷ []) g.board;
          gives = (ap (option_map (λ (job : Job Request). job.number)) is, refl, g.named);
          more = g.more;
          stands = record { server = g.stands.server; order = g.stands.order; fair = record { order = g.stands.fair.order; words = g.stands.fair.words } };
          on = record { fair = record { order = g.on.fair.order; words = g.on.fair.words }; now = g.on.now; timer = g.on.timer; ticket = g.on.ticket; place = g.on.place; later = g.on.later };
          owned = λ j o. inl (g.owned j o);
          others = g.others;
          quiet = λ q. q;
        }

        by : (o : Option (Server × View)) → Leads (Dropped c t k frames d m end_v) o → Leads (λ r w. Gone c server frames (numbers d) d m end_v r w) (option_and_then (λ x. Some (x.0, answers t (Err errors.StreamReadTimeout) x.1)) o)
        by None l = tt
        by (Some y) l = gone y.0 y.1 l

    -- It backed off long enough
    module _ (rest : job.stage ≡ Resting i) (not_end : i ≡ job.end → ⊥) where
      until_of : (stage : Stage) (phase : Phase) → stage ≡ Resting i → StageFits nothing_under_way d (dues v0) t stage phase → (until : ℕ) × (phase ≡ BackingOff until) × (dues v0 i ≡ Some until)
      until_of stage phase e (AtWaiting a b l) = absurd (let z = sym a ∙ e in cc)
      until_of stage phase e (AtResting j until a b o h) = (until, b, ap (dues v0) (let z : Resting j ≡ Resting i = sym a ∙ e in let q : j ≡ i = cc in sym q) ∙ h)
      until_of stage phase e (AtHeld p j a b o) = absurd (let z = sym a ∙ e in cc)
      until_of stage phase e (HasFailed p j a b o h) = absurd h
      until_of stage phase e (IsToHand l w h) = absurd l

      found : (until : ℕ) × (its.ask.phase ≡ BackingOff until) × (dues v0 i ≡ Some until)
      found = until_of job.stage its.ask.phase rest its.stage

      abbrev n : Multi
      n = move k its.ask Free m

      abbrev z : UnderWay
      z = record { todo = (t, Free) ∷ []; failed = [] }

      abbrev e : Desk
      e = desk_with t (waits_now job) less

      here : e.jobs t ≡ Some (waits_now job)
      here = with_here t (Some (waits_now job)) (λ j. entry_at j less.jobs)

      beside : (u : ℕ) → (t ≡ u → ⊥) → e.jobs u ≡ entry_at u s.jobs
      beside u ne = with_there t (Some (waits_now job)) (λ j. entry_at j less.jobs) u ne ∙ (at_frees t u 0 v0.ticket s.jobs st.order.jobs ∙ with_there t None (λ j. entry_at j s.jobs) u ne)

      moved_is : n.asks k ≡ Some (moved its.ask Free)
      moved_is = with_here k (Some (moved its.ask Free)) m.asks

      timer_on : (j u : ℕ) → (i ≡ j → ⊥) → entry_at j s.timers ≡ Some u → (entry_at j (frees i s.timers) ≡ Some u) × (dues v j ≡ dues v0 j)
      timer_on j u ne tm = (at_frees i j 0 v0.timers.next s.timers st.order.timers ∙ (with_there i None (λ j. entry_at j s.timers) j ne ∙ tm), due_there j ne)

      timer_back : (j u : ℕ) → entry_at j (frees i s.timers) ≡ Some u → (i ≡ j → ⊥) × (entry_at j s.timers ≡ Some u)
      timer_back j u tm = was_there i (λ j. entry_at j s.timers) j u (sym (at_frees i j 0 v0.timers.next s.timers st.order.timers) ∙ tm)

      only : (other : Job Request) → entry_at t s.jobs ≡ Some other → other.stage ≡ Resting i
      only other q = ap (λ (j : Job Request). j.stage) (same_job (entry_at t s.jobs) other job q is) ∙ rest

      fits : JobFits c z e n (dues v) t (waits_now job)
      fits = let o = timer_on job.end t not_end its.end in record { ask = moved its.ask Free; is = moved_is; request = its.request; octets = its.octets; end = o.0; over = o.1 ∙ its.over; stage = IsToHand (inl (refl, refl)) refl (inl refl) }

      change : Change c t k nothing_under_way z d e m n (dues v0) (dues v)
      change = record {
        jobs = beside;
        timers = λ j u ne tm. timer_on j u (λ q. ne (let x : Some t ≡ Some u = sym own ∙ (ap (λ j. entry_at j s.timers) q ∙ tm) in cc)) tm;
        timers_back = λ j u ne tm. (timer_back j u tm).1;
        inner = λ j u ne q. q;
        inner_back = λ j u ne q. q;
        waiting = λ u ne l. l;
        waiting_back = λ u ne l. l;
        asks = λ j ne. with_there k (Some (moved its.ask Free)) m.asks j ne;
        todo = λ u phase ne l. absurd l;
        todo_back = λ u phase ne l. elim l [ inl q ↦ absurd (ne q.0) | inr q ↦ absurd q ];
        failed = λ j u ne q l. l;
        own = λ u j q same. T.apart t u job j is q (sym same);
        number = λ j q. ap (λ (j : Job Request). j.number) (same_job (entry_at t s.jobs) j job q is);
        fits = λ j q. (let x : waits_now job ≡ j = same_job (e.jobs t) (waits_now job) j here q in (subst (λ j. JobFits c z e n (dues v) t j) x fits, sym (ap (λ (j : Job Request). j.number) x)));
        asked = λ a q. (waits_now job, here);
        own_timers = λ j tm. (let o = timer_back j t tm in let q = T.timers j t o.1 in (
          waits_now job,
          here,
          elim q.2 [
            | inl x ↦ inl (sym (ap (λ (j : Job Request). j.end) (same_job (entry_at t s.jobs) q.0 job q.1 is)) ∙ x)
            | inr x ↦ absurd (o.0 (let y : Resting i ≡ Resting j = sym (only q.0 q.1) ∙ x in cc))
          ],
        ));
        own_inner = λ j q. (let o = T.inner j t q in absurd (let x : Resting i ≡ Held o.1 (under j) = sym (only o.0 o.2) ∙ o.3 in cc));
        own_waiting = λ l. (let o = T.waiting t l in absurd (let x : Resting i ≡ Waiting = sym (only o.0 o.2) ∙ o.3 in cc));
        own_todo = λ phase l. elim l [ inl q ↦ (waits_now job, moved its.ask Free, here, refl, moved_is, q.1, inl (sym q.1)) | inr q ↦ absurd q ];
        failing = λ j u l named. absurd l;
        opening = T.opening;
        calm = T.calm;
      }

      nowhere : (p : ℕ) → IsAway p (m.asks k)
      nowhere p = away_so p (m.asks k) its.ask its.is (λ h. subst (IsThere p) found.1 h)

      link_timer : (p : ℕ) (l : Link Request) (j : ℕ) → entry_at p s.connections ≡ Some l → timer_of l.line.stage ≡ Some j → i ≡ j → ⊥
      link_timer p l j q mine same = let b = st.server.watched p l j q mine in let x : None ≡ Some t = sym b.1 ∙ (ap (λ j. entry_at j s.timers) (sym same) ∙ own) in cc

      in_hand : Stands c z e less n frames v
      in_hand = record {
        server = record {
          tables = changed c t k nothing_under_way z d e m n frames (dues v0) (dues v) v0.ticket v0.ticket T change;
          links = λ p. kept_link c t k nothing_under_way z d e m n frames (dues v0) (dues v) v0.ticket v0.ticket T change frames p refl refl refl (nowhere p) (away_so p (n.asks k) (moved its.ask Free) moved_is (λ q. q)) (λ l j q mine. due_there j (link_timer p l j q mine)) (le_refl v0.ticket) (st.server.links p);
          watched = λ p l j q mine. (let b = st.server.watched p l j q mine in (b.0, at_frees i j 0 v0.timers.next s.timers st.order.timers ∙ (with_there i None (λ j. entry_at j s.timers) j (link_timer p l j q mine) ∙ b.1)));
        };
        order = record { jobs = sorted_frees t 0 v0.ticket s.jobs st.order.jobs; timers = sorted_frees i 0 v0.timers.next s.timers st.order.timers; inner = st.order.inner; waiting = st.order.waiting; connections = st.order.connections; watches = st.order.watches; opening = st.order.opening };
        fair = fair_v;
      }

      numbers_so : (u : ℕ) → numbers e u ≡ numbers d u
      numbers_so u = numbers_stay t d e beside job (waits_now job) is here refl u

      owns_so : (j : ℕ) → Owns e j → Owns d j
      owns_so j (inl o) = inl (o.0, (timer_back j o.0 o.1).1)
      owns_so j (inr o) = inr o

      goes_on_now : (next : ℕ) → multi.Moves c server v.now next m Nothing n
      goes_on_now next = GoesOnNow k its.ask found.0 its.is found.1 (let x : Some at ≡ Some found.0 = sym set ∙ found.2 in let y : at ≡ found.0 = cc in subst (λ n. n ≤ v0.now) y late)

      again : Leads P (hands (one_stream for_one) server t job less v)
      again = leads_as (Went c server frames nothing_under_way e n v) P (hands (one_stream for_one) server t job less v)
          (hands_so c server frames t job [] less n v in_hand (present_below t 0 v0.ticket job s.jobs st.order.jobs is) (λ phase l. l) (quiet t own))
          (λ r w b. went_gone c server frames d m v r w (move_before c server frames d e m n v r w goes_on_now owns_so numbers_so (λ q. q) b))

    own_fires : (job.end ≡ i) ⊎ (job.stage ≡ Resting i) → Leads P (fires (one_stream for_one) server i t job less v)
    own_fires which = by (i == job.end) refl
      where
        same : (a b : ℕ) → (a == b) ≡ true → a ≡ b
        same a b e = grind (arith, nat_tests)

        other : (a b : ℕ) → (a == b) ≡ false → a ≡ b → ⊥
        other a b e f = grind (arith, nat_tests)

        by : (b : Bool) → (i == job.end) ≡ b → Leads P (if b then times_out (one_stream for_one) t job less v else hands (one_stream for_one) server t job less v)
        by true e = over (same i job.end e)
        by false e = elim which [ inl q ↦ absurd (other i job.end e (sym q)) | inr q ↦ again q (other i job.end e) ]

  -- one of others
  not_its : (Owns d i → ⊥) → Leads P (Some (s, v))
  not_its free = went_gone c server frames d m v s v (went_nowhere c server frames nothing_under_way s m v (record {
    server = server_retimed c nothing_under_way d m (dues v0) (dues v) frames v0.ticket v0.ticket (λ j o. due_there j (λ e. free (subst (Owns d) (sym e) o))) (le_refl v0.ticket) st.server;
    order = order_up s (sight v0) (sight v) st.order (le_refl v0.timers.next) (le_refl v0.ticket) (le_refl v0.place);
    fair = fair_v;
  }))

  -- one that a connection may have
  module _ (none : entry_at i s.timers ≡ None) (p : ℕ) (watch : entry_at i s.watches ≡ Some p) (l : Link Request) (is : entry_at p s.connections ≡ Some l) where
    found_link : (x : Conn) × IsLinkAt c p (names_at d) l m x (frames p) (dues v0) v0.ticket
    found_link = link_at c d m frames (dues v0) v0.ticket p l (st.server.links p) is

    abbrev x : Conn
    x = found_link.0

    work : AtWork c p l x s m frames v (dues v0)
    work = record {
      tables = tables_retimed c nothing_under_way d m (dues v0) (dues v) (λ j t tm. due_there j (λ e. let z : None ≡ Some t = sym none ∙ (ap (λ j. entry_at j s.timers) e ∙ tm) in cc)) T;
      links = λ q ne. link_retimed c nothing_under_way d m (dues v0) (dues v) frames v0.ticket v0.ticket q T
          (λ k j at_q mine. due_there j (λ e. (let b = st.server.watched q k j at_q mine in let z : Some p ≡ Some q = sym watch ∙ (ap (λ j. entry_at j s.watches) e ∙ b.0) in ne (cc)))) (le_refl v0.ticket) (st.server.links q);
      watched = st.server.watched;
      order = order_up s (sight v0) (sight v) st.order (le_refl v0.timers.next) (le_refl v0.ticket) (le_refl v0.place);
      fair = fair_v;
      is = is;
      line = found_link.1.line;
    }

    abbrev u0 : View
    u0 = lent v0

    fair_u : IsFair u0
    fair_u = record { order = st.fair.order; words = st.fair.words }

    fired : Leads (HasFired c server p (names_at d) m x l.line (lent v)) (line_fires p i l.line (lent v) l.line.stage)
    fired = line_fires_so c server p (names_at d) m x l.line u0 found_link.1.line fair_u found_link.1.settled i at set late

    left : (t : SingleLine) (w : View) → HasFired c server p (names_at d) m x l.line (lent v) t w → Leads (Went c server frames nothing_under_way d m v) (returns (one_stream for_one) p (taken (one_stream for_one) p l s) v (record l { line = t; octets = octets_left t.stage l.octets }, w))
    left t w (IsOthers line same_line same_view) =
        subst (λ (w : View). Leads (Went c server frames nothing_under_way d m v) (returns (one_stream for_one) p (taken (one_stream for_one) p l s) v (record l { line = t; octets = octets_left t.stage l.octets }, w))) (sym same_view)
        (subst (λ (t : SingleLine). Leads (Went c server frames nothing_under_way d m v) (returns (one_stream for_one) p (taken (one_stream for_one) p l s) v (record l { line = t; octets = octets_left t.stage l.octets }, lent v))) (sym same_line)
        (kept_call c server p l x s m frames v (dues v0) work frames (λ q ne. refl) m v.outs (still v.place m) (Rests v.place m) refl refl
        m (lent v) (record l { octets = octets_left l.line.stage l.octets }) x refl (λ q ne. refl) refl refl (timed_same l.line.stage (lent v) (record { order = fair_v.order; words = fair_v.words }))
        (record { place = found_link.1.place; timeout = found_link.1.timeout; line = line; settled = found_link.1.settled; keeps = subst (λ o. Keeps o (frames p) x.got) (sym (open_octets l (is_open c (dues v0) l.line.idle_time l.line.stage x.mode found_link.1.line.fits.stage))) found_link.1.keeps })
        refl refl refl refl (sym (append-nil v.outs)) (λ q. q)))
      where
        open_octets : (l : Link Request) → has_ended l.line.stage ≡ false → octets_left l.line.stage l.octets ≡ l.octets
        open_octets l e = ap (λ b. if b then [] else l.octets) e
    left t w (EndsByTimer moves e is_ended) =
        ended_call c server p l x s m frames v (dues v0) work frames (λ q ne. refl) m v.outs _ (runs_one c server v.now v.place m (Puts (Close p)) (end_at p m) (moves v.place)) refl refl
        w (record l { line = t; octets = octets_left t.stage l.octets }) e is_ended refl e.outs (quiet_end p m)

    link_fires : Leads (Went c server frames nothing_under_way d m v) (calls (one_stream for_one) p ((one_stream for_one).calls.step (due_timer i)) s v (Some l))
    link_fires = subst (λ b. Leads (Went c server frames nothing_under_way d m v) (option_and_then (returns (one_stream for_one) p (taken (one_stream for_one) p l s) v)
        (if b then Some (l, lent v) else option_and_then (λ y. Some (record l { line = y.0; octets = octets_left y.0.stage l.octets }, y.1)) (line_fires l.place i l.line (lent v) l.line.stage))))
        (sym (is_open c (dues v0) l.line.idle_time l.line.stage x.mode found_link.1.line.fits.stage))
        (subst (λ q. Leads (Went c server frames nothing_under_way d m v) (option_and_then (returns (one_stream for_one) p (taken (one_stream for_one) p l s) v)
        (option_and_then (λ y. Some (record l { line = y.0; octets = octets_left y.0.stage l.octets }, y.1)) (line_fires q i l.line (lent v) l.line.stage)))) (sym found_link.1.place)
        (by (line_fires p i l.line (lent v) l.line.stage) fired))
      where
        by : (o : Option (SingleLine × View)) → Leads (HasFired c server p (names_at d) m x l.line (lent v)) o → Leads (Went c server frames nothing_under_way d m v) (option_and_then (returns (one_stream for_one) p (taken (one_stream for_one) p l s) v) (option_and_then (λ y. Some (record l { line = y.0; octets = octets_left y.0.stage l.octets }, y.1)) o))
        by None h = tt
        by (Some y) h = left y.0 y.1 h

  pub due_so : Leads P (due (one_stream for_one) server i s v)
  due_so = by (entry_at i s.timers) refl
    where
      free_of : entry_at i s.timers ≡ None → ((p : ℕ) (l : Link Request) → entry_at p s.connections ≡ Some l → timer_of l.line.stage ≡ Some i → ⊥) → Owns d i → ⊥
      free_of none links (inl o) = let z : None ≡ Some o.0 = sym none ∙ o.1 in cc
      free_of none links (inr o) = links o.0 o.1 o.2 o.3

      at_place : entry_at i s.timers ≡ None → (p : ℕ) → entry_at i s.watches ≡ Some p → (o : Option (Link Request)) → entry_at p s.connections ≡ o → Leads P (calls (one_stream for_one) p ((one_stream for_one).calls.step (due_timer i)) s v o)
      at_place none p watch None e = not_its (free_of none (λ q l at_q mine. (let b = st.server.watched q l i at_q mine in let z : Some p ≡ Some q = sym watch ∙ b.0 in let w : p ≡ q = cc in let y : None ≡ Some l = sym e ∙ (ap (λ p. entry_at p s.connections) w ∙ at_q) in cc)))
      at_place none p watch (Some l) e = leads_as (Went c server frames nothing_under_way d m v) P (calls (one_stream for_one) p ((one_stream for_one).calls.step (due_timer i)) s v (Some l)) (link_fires none p watch l e) (λ r w g. went_gone c server frames d m v r w g)

      by_watch : entry_at i s.timers ≡ None → (o : Option ℕ) → entry_at i s.watches ≡ o → Leads P (hears_at (one_stream for_one) (due_timer i) s v o)
      by_watch none None e = not_its (free_of none (λ q l at_q mine. (let b = st.server.watched q l i at_q mine in let z : None ≡ Some q = sym e ∙ b.0 in cc)))
      by_watch none (Some p) e = at_place none p e (entry_at p s.connections) refl

      by : (o : Option ℕ) → entry_at i s.timers ≡ o → Leads P (due_at (one_stream for_one) server i s v o)
      by None e = by_watch e (entry_at i s.watches) refl
      by (Some t) e = let o = T.timers i t e in
          subst (λ (j : Option (Job Request)). Leads P (with_job (fires (one_stream for_one) server i) t (record s { timers = frees i s.timers }) v j)) (sym o.1) (own_fires t e o.0 o.1 o.2)
