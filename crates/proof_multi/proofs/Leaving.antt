-- A request is given up where it is: it is no more, and its timers are not set.
use Rattle.std.proofs.Common.{◌≡◌, ◌≢◌, ℕ, ◌⊎◌, inl, inr, Bool, true, false, List, [], Option, Some, None, refl, sym, ap, subst, ◌∙◌, le_refl, append-nil}
use Rattle.std.specs.Prelude.{option_map, is_some, if◌then◌else◌}
use Rattle.client_request.specs.Numbered.{frees, entry_at}
use Rattle.client_request.specs.Request.{Request}
use Rattle.client_request.specs.Requests.{for_one}
use Rattle.client_request.specs.Timers.{cancelled}
use Rattle.client_request.specs.View.{View}
use Rattle.client_stream.specs.Plain.{Asked, gives_up, gives_up_id}
use Rattle.client_stream.specs.declared.request.QueuedRequest.{QueuedRequest as Queued}
use Rattle.client_multi.specs.Links.{Link, one_stream}
use Rattle.client_multi.specs.MultiStream.{leaves, calls_at, calls, taken, with_connection, taken_back, lent}
use Rattle.client_multi.specs.declared.multi_stream.job.Job.{Job}
use Rattle.client_multi.specs.declared.multi_stream.job.Stage.{Stage}
use Rattle.client_multi.specs.declared.multi_stream.job.Stage.TheVariants.{Waiting, Resting, Held}
use Rattle.right_trace.specs.Messages.{Octets}
use Rattle.proof_right.specs.machine.Part.{Act}
use Rattle.proof_right.specs.machine.Streams.{Phase, Expecting, BackingOff, Conn, Multi, drop}
use Rattle.right_trace.specs.Updates.{with_at}
use Rattle.proof_parts.specs.Chains.{still}
use Rattle.proof_parts.specs.Connections.{timer_of, dues, IsTimed, IsAt, IsSettled}
use Rattle.proof_parts.specs.Lines.{SingleLine, Sorted, IsLineAt}
use Rattle.proof_parts.specs.Octets.{IsLinkAt}
use Rattle.proof_parts.specs.PartTie.{GoesOn, Leads}
use Rattle.proof_parts.specs.Runs.{Rests}
use Rattle.proof_parts.specs.Seats.{IsAway}
use Rattle.proof_parts.specs.Sights.{sight, IsFair}
use Rattle.proof_parts.proofs.Calling.{is_open, gives_up_so}
use Rattle.proof_parts.proofs.GoingOn.{goes_nowhere, goes_without, fair_without, dues_without, none_next}
use Rattle.proof_parts.proofs.Keys.{with_here, with_there, was_there, each_number}
use Rattle.proof_parts.proofs.Retiming.{timed_same}
use Rattle.proof_parts.proofs.Tables.{at_frees, sorted_frees}
use Rattle.proof_multi.specs.Servers.{Desk, Server, desk_of, numbers, names_at, nothing_under_way, IsListed, IsThere, under, StageFits, AtWaiting, AtResting, AtHeld, HasFailed, IsToHand, JobFits, LinkFits, IsNone, IsSome, AreTables, AreOrderly, Owns, Stands}
use Rattle.proof_multi.proofs.Calling.{CallLeft, call_so, owned_set}
use Rattle.proof_multi.proofs.Changing.{Change, kept_link, changed, name_stays, apart_now}
use Rattle.proof_multi.proofs.Desks.{away_none, away_so, one_place, not_both, line_stays, name_is}
use Rattle.proof_multi.proofs.Going.{Went}
use Rattle.proof_multi.proofs.Hands.{same_job}
use Rattle.proof_multi.proofs.Holding.{link_at}
use Rattle.proof_multi.proofs.Seated.{is_at}
use Rattle.proof_multi.proofs.Waitings.{without, listed_without, without_listed, rises_without}
use Rattle.right_trace.specs.Trace.{Conf}

-- what is left where request k of ticket t is no more: v is seen once its end's timer was taken out
pub record Dropped (c : Conf) (t k : ℕ) (frames : ℕ → List Octets) (d : Desk) (m : Multi) (v : View) (r : Server) (w : View) : Type 0 where
  pub outs : w.outs ≡ v.outs
  pub board : w.board ≡ v.board
  pub place : w.place ≡ v.place
  pub more : w.more ≡ v.more
  pub stands : Stands c nothing_under_way (desk_of r) r (drop k m) frames w
  pub on : GoesOn v w
  pub owned : (i : ℕ) → Owns (desk_of r) i → Owns d i
  pub others : (i due : ℕ) → (Owns d i → ⊥) → dues v i ≡ Some due → dues w i ≡ Some due
  pub named : (u : ℕ) → numbers (desk_of r) u ≡ with_at t None (numbers d) u

module _ (c : Conf) (server : ℕ) (frames : ℕ → List Octets) (s : Server) (m : Multi) (v0 : View) (st : Stands c nothing_under_way (desk_of s) s m frames v0) (t : ℕ) (job : Job Request) (is : entry_at t s.jobs ≡ Some job) where
  abbrev d : Desk
  d = desk_of s

  abbrev k : ℕ
  k = job.number

  its : JobFits c nothing_under_way d m (dues v0) t job
  its = st.server.tables.jobs t job is

  -- the view, and the tables, without the timer of its end
  abbrev v : View
  v = record v0 { timers = cancelled job.end v0.timers }

  abbrev n : Multi
  n = drop k m

  gone : n.asks k ≡ None
  gone = with_here k None m.asks

  jobs_beside : (u : ℕ) → (t ≡ u → ⊥) → entry_at u (frees t s.jobs) ≡ entry_at u s.jobs
  jobs_beside u ne = at_frees t u 0 v0.ticket s.jobs st.order.jobs ∙ with_there t None (λ j. entry_at j s.jobs) u ne

  jobs_here : entry_at t (frees t s.jobs) ≡ None
  jobs_here = at_frees t t 0 v0.ticket s.jobs st.order.jobs ∙ with_here t None (λ j. entry_at j s.jobs)

  no_job : (j : Job Request) → entry_at t (frees t s.jobs) ≡ Some j → ⊥
  no_job j e = let z : None ≡ Some j = sym jobs_here ∙ e in cc

  named_so : (u : ℕ) → option_map (λ (job : Job Request). job.number) (entry_at u (frees t s.jobs)) ≡ with_at t None (numbers d) u
  named_so u = each_number (λ u. option_map (λ (job : Job Request). job.number) (entry_at u (frees t s.jobs)) ≡ with_at t None (numbers d) u) t
      (ap (option_map (λ (job : Job Request). job.number)) jobs_here ∙ sym (with_here t None (numbers d)))
      (λ u ne. ap (option_map (λ (job : Job Request). job.number)) (jobs_beside u ne) ∙ sym (with_there t None (numbers d) u ne)) u

  timer_freed : (i u : ℕ) → (t ≡ u → ⊥) → entry_at i s.timers ≡ Some u → (job.end ≡ i → ⊥)
  timer_freed i u ne at e = ne (let z : Some t ≡ Some u = sym its.end ∙ (ap (λ i. entry_at i s.timers) e ∙ at) in cc)

  due_there : (i : ℕ) → (job.end ≡ i → ⊥) → dues v i ≡ dues v0 i
  due_there i ne = dues_without v0 job.end i st.fair ∙ with_there job.end None (dues v0) i ne

  not_link : (p : ℕ) (l : Link Request) (i : ℕ) → entry_at p s.connections ≡ Some l → timer_of l.line.stage ≡ Some i → (own : ℕ) (u : ℕ) → entry_at own s.timers ≡ Some u → own ≡ i → ⊥
  not_link p l i at mine own u tm e = let b = st.server.watched p l i at mine in let z : None ≡ Some u = sym b.1 ∙ (ap (λ i. entry_at i s.timers) (sym e) ∙ tm) in cc

  -- tables that it may be left with: those of timers, of tickets at connections, of those who wait
  module _ (timers inner : List (ℕ × ℕ)) (waiting : List ℕ) (w : View)
      (timers_on : (i u : ℕ) → (t ≡ u → ⊥) → entry_at i s.timers ≡ Some u → (entry_at i timers ≡ Some u) × (dues w i ≡ dues v0 i))
      (timers_back : (i u : ℕ) → entry_at i timers ≡ Some u → (entry_at i s.timers ≡ Some u) × (t ≡ u → ⊥))
      (inner_on : (i u : ℕ) → (t ≡ u → ⊥) → entry_at i s.inner ≡ Some u → entry_at i inner ≡ Some u)
      (inner_back : (i u : ℕ) → entry_at i inner ≡ Some u → (entry_at i s.inner ≡ Some u) × (t ≡ u → ⊥))
      (waiting_on : (u : ℕ) → (t ≡ u → ⊥) → IsListed u s.waiting → IsListed u waiting)
      (waiting_back : (u : ℕ) → IsListed u waiting → IsListed u s.waiting × (t ≡ u → ⊥)) where
    abbrev to : Server
    to = record s { jobs = frees t s.jobs; timers = timers; inner = inner; waiting = waiting }

    change : Change c t k nothing_under_way nothing_under_way d (desk_of to) m n (dues v0) (dues w)
    change = record {
      jobs = jobs_beside;
      timers = timers_on;
      timers_back = λ i u ne at. (timers_back i u at).0;
      inner = inner_on;
      inner_back = λ i u ne at. (inner_back i u at).0;
      waiting = waiting_on;
      waiting_back = λ u ne l. (waiting_back u l).0;
      asks = λ j ne. with_there k None m.asks j ne;
      todo = λ u phase ne l. l;
      todo_back = λ u phase ne l. l;
      failed = λ i u ne at l. l;
      own = λ u j at same. st.server.tables.apart t u job j is at (sym same);
      number = λ j at. ap (λ (j : Job Request). j.number) (same_job (entry_at t s.jobs) j job at is);
      fits = λ j at. absurd (no_job j at);
      asked = λ a at. absurd (let z : None ≡ Some a = sym gone ∙ at in cc);
      own_timers = λ i at. absurd ((timers_back i t at).1 refl);
      own_inner = λ i at. absurd ((inner_back i t at).1 refl);
      own_waiting = λ l. absurd ((waiting_back t l).1 refl);
      own_todo = λ phase l. absurd l;
      failing = λ i j l named. absurd l;
      opening = st.server.tables.opening;
      calm = st.server.tables.calm;
    }

    tables_so : AreTables c nothing_under_way (desk_of to) n (dues w)
    tables_so = changed c t k nothing_under_way nothing_under_way d (desk_of to) m n frames (dues v0) (dues w) v0.ticket v0.ticket st.server.tables change

    link_so : (p : ℕ) → IsAway p (m.asks k) → ((l : Link Request) (i : ℕ) → entry_at p s.connections ≡ Some l → timer_of l.line.stage ≡ Some i → dues w i ≡ dues v0 i) → LinkFits c (desk_of to) n frames (dues w) v0.ticket p
    link_so p away due = kept_link c t k nothing_under_way nothing_under_way d (desk_of to) m n frames (dues v0) (dues w) v0.ticket v0.ticket st.server.tables change frames p refl refl refl away (away_none p (n.asks k) gone) due (le_refl v0.ticket) (st.server.links p)

    watched_so : (p : ℕ) (l : Link Request) (i : ℕ) → entry_at p s.connections ≡ Some l → timer_of l.line.stage ≡ Some i → (entry_at i s.watches ≡ Some p) × (entry_at i timers ≡ None)
    watched_so p l i at own = (let b = st.server.watched p l i at own in (b.0, by (entry_at i timers) refl b.1))
      where
        by : (o : Option ℕ) → entry_at i timers ≡ o → entry_at i s.timers ≡ None → entry_at i timers ≡ None
        by None e none = e
        by (Some u) e none = absurd (let z : None ≡ Some u = sym none ∙ (timers_back i u e).0 in cc)

    -- the name of another stays, and names are apart
    other_names : (i j : ℕ) → (k ≡ j → ⊥) → names_at d i ≡ Some j → names_at (desk_of to) i ≡ Some j
    other_names = name_stays c t k nothing_under_way nothing_under_way d (desk_of to) m n frames (dues v0) (dues w) v0.ticket v0.ticket st.server.tables change

    names_apart_so : (i j l : ℕ) → names_at (desk_of to) i ≡ Some l → names_at (desk_of to) j ≡ Some l → i ≡ j
    names_apart_so = apart_now c t k nothing_under_way nothing_under_way d (desk_of to) m n frames (dues v0) (dues w) v0.ticket v0.ticket st.server.tables change

  -- without the timer of its end alone
  ends_on : (i u : ℕ) → (t ≡ u → ⊥) → entry_at i s.timers ≡ Some u → (entry_at i (frees job.end s.timers) ≡ Some u) × (dues v i ≡ dues v0 i)
  ends_on i u ne at = (at_frees job.end i 0 v0.timers.next s.timers st.order.timers ∙ (with_there job.end None (λ j. entry_at j s.timers) i (timer_freed i u ne at) ∙ at), due_there i (timer_freed i u ne at))

  -- a timer of its own is that of its end, or the one by which it rests
  own_timer : (i : ℕ) → entry_at i s.timers ≡ Some t → (job.end ≡ i) ⊎ (job.stage ≡ Resting i)
  own_timer i at = let o = st.server.tables.timers i t at in let j = same_job (entry_at t s.jobs) o.0 job o.1 is in elim o.2 [ inl e ↦ inl (sym (ap (λ (j : Job Request). j.end) j) ∙ e) | inr e ↦ inr (sym (ap (λ (j : Job Request). j.stage) j) ∙ e) ]

  ends_back : ((i : ℕ) → job.stage ≢ Resting i) → (i u : ℕ) → entry_at i (frees job.end s.timers) ≡ Some u → (entry_at i s.timers ≡ Some u) × (t ≡ u → ⊥)
  ends_back rest i u at =
      let o = was_there job.end (λ j. entry_at j s.timers) i u (sym (at_frees job.end i 0 v0.timers.next s.timers st.order.timers) ∙ at) in
      (o.1, λ e. elim (own_timer i (o.1 ∙ ap Some (sym e))) [ inl q ↦ o.0 q | inr q ↦ rest i q ])

  inner_of : (i : ℕ) → entry_at i s.inner ≡ Some t → (p : ℕ) × (job.stage ≡ Held p (under i))
  inner_of i at = let o = st.server.tables.inner i t at in (o.1, sym (ap (λ (j : Job Request). j.stage) (same_job (entry_at t s.jobs) o.0 job o.2 is)) ∙ o.3)

  none_inner : ((p i : ℕ) → job.stage ≢ Held p (under i)) → (i u : ℕ) → entry_at i s.inner ≡ Some u → (entry_at i s.inner ≡ Some u) × (t ≡ u → ⊥)
  none_inner held i u at = (at, λ e. let o = inner_of i (at ∙ ap Some (sym e)) in held o.0 i o.1)

  none_waits : (job.stage ≢ Waiting) → (u : ℕ) → IsListed u s.waiting → IsListed u s.waiting × (t ≡ u → ⊥)
  none_waits waits u l = (l, λ e. let o = st.server.tables.waiting u l in waits (sym (ap (λ (j : Job Request). j.stage) (same_job (entry_at t s.jobs) o.0 job (ap (λ t. entry_at t s.jobs) e ∙ o.2) is)) ∙ o.3))

  abbrev after : Server
  after = record s { jobs = frees t s.jobs; timers = frees job.end s.timers }

  fair_v : IsFair v
  fair_v = fair_without v0 job.end st.fair

  link_dues : (p : ℕ) (l : Link Request) (i : ℕ) → entry_at p s.connections ≡ Some l → timer_of l.line.stage ≡ Some i → dues v i ≡ dues v0 i
  link_dues p l i at own = due_there i (not_link p l i at own job.end t its.end)

  away_by : (p : ℕ) → (IsThere p its.ask.phase → ⊥) → IsAway p (m.asks k)
  away_by p ne = away_so p (m.asks k) its.ask its.is ne

  -- It waits
  waits_left : job.stage ≡ Waiting → its.ask.phase ≡ Expecting → Dropped c t k frames d m v (record after { waiting = without t s.waiting }) v
  waits_left e phase = record {
    outs = refl;
    board = refl;
    place = refl;
    more = refl;
    stands = record {
      server = record {
        tables = tables_so (frees job.end s.timers) s.inner (without t s.waiting) v ends_on back (λ i u ne at. at) inner_back (λ u ne l. without_listed t u s.waiting ne l) (λ u l. listed_without t u 0 v0.ticket s.waiting st.order.waiting l);
        links = λ p. link_so (frees job.end s.timers) s.inner (without t s.waiting) v ends_on back (λ i u ne at. at) inner_back (λ u ne l. without_listed t u s.waiting ne l) (λ u l. listed_without t u 0 v0.ticket s.waiting st.order.waiting l)
            p (away_by p (λ h. subst (IsThere p) phase h)) (link_dues p);
        watched = watched_so (frees job.end s.timers) s.inner (without t s.waiting) v ends_on back (λ i u ne at. at) inner_back (λ u ne l. without_listed t u s.waiting ne l) (λ u l. listed_without t u 0 v0.ticket s.waiting st.order.waiting l);
      };
      order = record { jobs = sorted_frees t 0 v0.ticket s.jobs st.order.jobs; timers = sorted_frees job.end 0 v0.timers.next s.timers st.order.timers; inner = st.order.inner; waiting = rises_without t 0 v0.ticket s.waiting st.order.waiting; connections = st.order.connections; watches = st.order.watches; opening = st.order.opening };
      fair = fair_v;
    };
    on = goes_nowhere v fair_v;
    owned = λ i o. elim o [ inl x ↦ inl (x.0, (back i x.0 x.1).0) | inr x ↦ inr x ];
    others = λ i due free at. at;
    named = named_so;
  }
    where
      back : (i u : ℕ) → entry_at i (frees job.end s.timers) ≡ Some u → (entry_at i s.timers ≡ Some u) × (t ≡ u → ⊥)
      back = ends_back (λ i q. let z : Waiting ≡ Resting i = sym e ∙ q in cc)

      inner_back : (i u : ℕ) → entry_at i s.inner ≡ Some u → (entry_at i s.inner ≡ Some u) × (t ≡ u → ⊥)
      inner_back = none_inner (λ p i q. let z : Waiting ≡ Held p (under i) = sym e ∙ q in cc)

  -- It rests
  module _ (i0 until : ℕ) (e : job.stage ≡ Resting i0) (phase : its.ask.phase ≡ BackingOff until) (own : entry_at i0 s.timers ≡ Some t) where
    abbrev w : View
    w = record v { timers = cancelled i0 v.timers }

    abbrev both : List (ℕ × ℕ)
    both = frees i0 (frees job.end s.timers)

    sorted_once : Sorted 0 v0.timers.next (frees job.end s.timers)
    sorted_once = sorted_frees job.end 0 v0.timers.next s.timers st.order.timers

    on_both : (i u : ℕ) → (t ≡ u → ⊥) → entry_at i s.timers ≡ Some u → (entry_at i both ≡ Some u) × (dues w i ≡ dues v0 i)
    on_both i u ne at =
        let other : i0 ≡ i → ⊥ = λ q. ne (let z : Some t ≡ Some u = sym own ∙ (ap (λ i. entry_at i s.timers) q ∙ at) in cc) in
        let o = ends_on i u ne at in
        (at_frees i0 i 0 v0.timers.next (frees job.end s.timers) sorted_once ∙ (with_there i0 None (λ j. entry_at j (frees job.end s.timers)) i other ∙ o.0), dues_without v i0 i fair_v ∙ (with_there i0 None (dues v) i other ∙ o.1))

    back_both : (i u : ℕ) → entry_at i both ≡ Some u → (entry_at i s.timers ≡ Some u) × (t ≡ u → ⊥)
    back_both i u at =
        let o = was_there i0 (λ j. entry_at j (frees job.end s.timers)) i u (sym (at_frees i0 i 0 v0.timers.next (frees job.end s.timers) sorted_once) ∙ at) in
        let q = was_there job.end (λ j. entry_at j s.timers) i u (sym (at_frees job.end i 0 v0.timers.next s.timers st.order.timers) ∙ o.1) in
        (q.1, λ same. elim (own_timer i (q.1 ∙ ap Some (sym same))) [ inl z ↦ q.0 z | inr z ↦ o.0 (let x : Resting i0 ≡ Resting i = sym e ∙ z in cc) ])

    inner_rest : (i u : ℕ) → entry_at i s.inner ≡ Some u → (entry_at i s.inner ≡ Some u) × (t ≡ u → ⊥)
    inner_rest = none_inner (λ p i q. let z : Resting i0 ≡ Held p (under i) = sym e ∙ q in cc)

    waits_rest : (u : ℕ) → IsListed u s.waiting → IsListed u s.waiting × (t ≡ u → ⊥)
    waits_rest = none_waits (λ q. let z : Resting i0 ≡ Waiting = sym e ∙ q in cc)

    rest_dues : (p : ℕ) (l : Link Request) (i : ℕ) → entry_at p s.connections ≡ Some l → timer_of l.line.stage ≡ Some i → dues w i ≡ dues v0 i
    rest_dues p l i at mine = dues_without v i0 i fair_v ∙ (with_there i0 None (dues v) i (not_link p l i at mine i0 t own) ∙ link_dues p l i at mine)

    rests_left : Dropped c t k frames d m v (record after { timers = both }) w
    rests_left = record {
      outs = refl;
      board = refl;
      place = refl;
      more = refl;
      stands = record {
        server = record {
          tables = tables_so both s.inner s.waiting w on_both back_both (λ i u ne at. at) inner_rest (λ u ne l. l) waits_rest;
          links = λ p. link_so both s.inner s.waiting w on_both back_both (λ i u ne at. at) inner_rest (λ u ne l. l) waits_rest p (away_by p (λ h. subst (IsThere p) phase h)) (rest_dues p);
          watched = watched_so both s.inner s.waiting w on_both back_both (λ i u ne at. at) inner_rest (λ u ne l. l) waits_rest;
        };
        order = record { jobs = sorted_frees t 0 v0.ticket s.jobs st.order.jobs; timers = sorted_frees i0 0 v0.timers.next (frees job.end s.timers) sorted_once; inner = st.order.inner; waiting = st.order.waiting; connections = st.order.connections; watches = st.order.watches; opening = st.order.opening };
        fair = fair_without v i0 fair_v;
      };
      on = goes_without v i0 fair_v;
      owned = λ i o. elim o [ inl x ↦ inl (x.0, (back_both i x.0 x.1).0) | inr x ↦ inr x ];
      others = λ i due free at. dues_without v i0 i fair_v ∙ (with_there i0 None (dues v) i (λ q. free (inl (t, ap (λ i. entry_at i s.timers) (sym q) ∙ own))) ∙ at);
      named = named_so;
    }

  -- It is at a connection
  module _ (p i0 : ℕ) (e : job.stage ≡ Held p (under i0)) (there : IsThere p its.ask.phase) (own : entry_at i0 s.inner ≡ Some t) (l : Link Request) (at_p : entry_at p s.connections ≡ Some l) where
    found : (x : Conn) × IsLinkAt c p (names_at d) l m x (frames p) (dues v0) v0.ticket
    found = link_at c d m frames (dues v0) v0.ticket p l (st.server.links p) at_p

    abbrev x : Conn
    x = found.0

    abbrev less_inner : List (ℕ × ℕ)
    less_inner = frees i0 s.inner

    abbrev s2 : Server
    s2 = record after { inner = less_inner }

    inner_on : (i u : ℕ) → (t ≡ u → ⊥) → entry_at i s.inner ≡ Some u → entry_at i less_inner ≡ Some u
    inner_on i u ne at = at_frees i0 i 0 v0.ticket s.inner st.order.inner ∙ (with_there i0 None (λ j. entry_at j s.inner) i (λ q. ne (let z : Some t ≡ Some u = sym own ∙ (ap (λ i. entry_at i s.inner) q ∙ at) in cc)) ∙ at)

    inner_back : (i u : ℕ) → entry_at i less_inner ≡ Some u → (entry_at i s.inner ≡ Some u) × (t ≡ u → ⊥)
    inner_back i u at =
        let o = was_there i0 (λ j. entry_at j s.inner) i u (sym (at_frees i0 i 0 v0.ticket s.inner st.order.inner) ∙ at) in
        (o.1, λ same. (let q = inner_of i (o.1 ∙ ap Some (sym same)) in let z : Held p (under i0) ≡ Held q.0 (under i) = sym e ∙ q.1 in let y : under i0 ≡ under i = cc in o.0 (ap (λ (r : Asked). r.ticket) y)))

    back : (i u : ℕ) → entry_at i (frees job.end s.timers) ≡ Some u → (entry_at i s.timers ≡ Some u) × (t ≡ u → ⊥)
    back = ends_back (λ i q. let z : Held p (under i0) ≡ Resting i = sym e ∙ q in cc)

    waits_held : (u : ℕ) → IsListed u s.waiting → IsListed u s.waiting × (t ≡ u → ⊥)
    waits_held = none_waits (λ q. let z : Held p (under i0) ≡ Waiting = sym e ∙ q in cc)

    tables2 : AreTables c nothing_under_way (desk_of s2) n (dues v)
    tables2 = tables_so (frees job.end s.timers) less_inner s.waiting v ends_on back inner_on inner_back (λ u ne l. l) waits_held

    links2 : (q : ℕ) → (p ≡ q → ⊥) → LinkFits c (desk_of s2) n frames (dues v) v0.ticket q
    links2 q ne = link_so (frees job.end s.timers) less_inner s.waiting v ends_on back inner_on inner_back (λ u ne l. l) waits_held q (away_by q (λ h. ne (one_place p q its.ask.phase there h))) (link_dues q)

    watched2 : (q : ℕ) (l : Link Request) (i : ℕ) → entry_at q s.connections ≡ Some l → timer_of l.line.stage ≡ Some i → (entry_at i s.watches ≡ Some q) × (entry_at i (frees job.end s.timers) ≡ None)
    watched2 = watched_so (frees job.end s.timers) less_inner s.waiting v ends_on back inner_on inner_back (λ u ne l. l) waits_held

    order2 : AreOrderly s2 (sight v)
    order2 = record { jobs = sorted_frees t 0 v0.ticket s.jobs st.order.jobs; timers = sorted_frees job.end 0 v0.timers.next s.timers st.order.timers; inner = sorted_frees i0 0 v0.ticket s.inner st.order.inner; waiting = st.order.waiting; connections = st.order.connections; watches = st.order.watches; opening = st.order.opening }

    named : names_at d i0 ≡ Some k
    named = name_is d i0 t job own is

    seat : IsAt l.line i0
    seat = is_at c p (names_at d) l.line m x (dues v0) v0.ticket found.1.line i0 k its.ask named its.is there

    either : ((w : Queued Request Request) × (entry_at i0 l.line.queue ≡ Some w)) ⊎ ((entry_at i0 l.line.queue ≡ None) × (id : ℕ) × (entry_at i0 l.line.ids ≡ Some id))
    either = by (entry_at i0 l.line.queue) refl seat
      where
        by : (o : Option (Queued Request Request)) → entry_at i0 l.line.queue ≡ o → IsAt l.line i0 → ((w : Queued Request Request) × (entry_at i0 l.line.queue ≡ Some w)) ⊎ ((entry_at i0 l.line.queue ≡ None) × (id : ℕ) × (entry_at i0 l.line.ids ≡ Some id))
        by (Some w) q a = inl (w, q)
        by None q (inl w) = absurd (let z : None ≡ Some w.0 = sym q ∙ w.1 in cc)
        by None q (inr id) = inr (q, id.0, id.1)

    abbrev l2 : Link Request
    l2 = record l { line = gives_up i0 l.line }

    line2 : IsLineAt c p (names_at (desk_of s2)) (gives_up i0 l.line) n x (dues v) v0.ticket
    line2 = line_stays c p (gives_up i0 l.line) (names_at d) (names_at (desk_of s2)) n n x (dues v0) (dues v) v0.ticket v0.ticket
        (gives_up_so c p (names_at d) m x l.line v0 found.1.line i0 k named either) refl (λ j. inl refl)
        (λ i j a nm at th. other_names (frees job.end s.timers) less_inner s.waiting v ends_on back inner_on inner_back (λ u ne l. l) waits_held i j (λ q. let z : None ≡ Some a = sym gone ∙ (ap n.asks q ∙ at) in cc) nm)
        (names_apart_so (frees job.end s.timers) less_inner s.waiting v ends_on back inner_on inner_back (λ u ne l. l) waits_held)
        (λ i mine. link_dues p l i at_p (sym (ap timer_of (same_stage l.line)) ∙ mine)) (le_refl v0.ticket)
      where
        same_stage : (a : SingleLine) → (gives_up i0 a).stage ≡ a.stage
        same_stage a = by (is_some (entry_at i0 a.queue)) (entry_at i0 a.ids)
          where
            by : (b : Bool) (o : Option ℕ) → (if b then record a { queue = frees i0 a.queue } else gives_up_id i0 a o).stage ≡ a.stage
            by true o = refl
            by false None = refl
            by false (Some id) = refl

    settled : IsSettled (gives_up i0 l.line)
    settled = by (is_some (entry_at i0 l.line.queue)) refl (entry_at i0 l.line.ids)
      where
        by : (b : Bool) → is_some (entry_at i0 l.line.queue) ≡ b → (o : Option ℕ) → IsSettled (if b then record l.line { queue = frees i0 l.line.queue } else gives_up_id i0 l.line o)
        by true q o = λ writing. (let none = found.1.settled writing in absurd (let z : false ≡ true = sym (ap (λ (es : List (ℕ × Queued Request Request)). is_some (entry_at i0 es)) none) ∙ q in cc))
        by false q None = found.1.settled
        by false q (Some id) = found.1.settled

    left : CallLeft c p [] frames s2 l n n (record v { board = []; request = v.request; ticket = v.ticket }) (lent v) l2
    left = record {
      aside = λ j away. refl;
      going = λ j a at. (a.phase, at);
      conns = λ q ne. refl;
      there = λ i j a nm at th. inl (a, at, th);
      failing = tt;
      timed = subst (λ st. IsTimed l.line.stage st (lent v) (lent v)) (sym same_stage) (timed_same l.line.stage (lent v) (record { order = fair_v.order; words = fair_v.words }));
      opening = refl;
      calm = refl;
      new = inl (is_open c (dues v) l2.line.idle_time l2.line.stage x.mode line2.fits.stage, x, record { place = found.1.place; timeout = found.1.timeout; line = line2; settled = settled; keeps = found.1.keeps });
    }
      where
        same_stage : (gives_up i0 l.line).stage ≡ l.line.stage
        same_stage = by (is_some (entry_at i0 l.line.queue)) (entry_at i0 l.line.ids)
          where
            by : (b : Bool) (o : Option ℕ) → (if b then record l.line { queue = frees i0 l.line.queue } else gives_up_id i0 l.line o).stage ≡ l.line.stage
            by true o = refl
            by false None = refl
            by false (Some id) = refl

    abbrev r : Server
    r = with_connection (one_stream for_one) p l2 (taken (one_stream for_one) p l s2)

    went : (x : Went c server frames nothing_under_way (desk_of s2) n v r (taken_back v (lent v))) × (x.made ≡ still v.place n)
    went = call_so c server p [] frames frames nothing_under_way s2 l n n v (lent v) v.request v.ticket l2 refl (λ q ne. refl) tables2 links2 watched2 order2 fair_v
        at_p left n v.outs (still v.place n) refl (Rests v.place n) refl (sym (append-nil v.outs)) refl refl (le_refl v.ticket) (λ q. q)

    stands : Stands c nothing_under_way (desk_of r) r n frames v
    stands = subst (λ (a : Act Multi). Stands c nothing_under_way (desk_of r) r a.state frames v) went.1 went.0.stands

    owns : (i : ℕ) → Owns (desk_of s2) i → Owns d i
    owns i (inl o) = inl (o.0, (back i o.0 o.1).0)
    owns i (inr o) = inr o

    held_left : Leads (Dropped c t k frames d m v) (calls_at (one_stream for_one) p ((one_stream for_one).calls.cancel (under i0)) s2 v)
    held_left = subst (λ (o : Option (Link Request)). Leads (Dropped c t k frames d m v) (calls (one_stream for_one) p ((one_stream for_one).calls.cancel (under i0)) s2 v o)) (sym at_p) (record {
      outs = refl;
      board = refl;
      place = refl;
      more = refl;
      stands = stands;
      on = goes_nowhere v fair_v;
      owned = λ i o. elim (went.0.owned i o) [
        | inl q ↦ owns i q
        | inr le ↦ (let set = owned_set c nothing_under_way (desk_of r) n frames (dues v) v.ticket stands.server i o in absurd (let z : None ≡ Some set.0 = sym (none_next v i fair_v le) ∙ set.1 in cc))
      ];
      others = λ i due free at. at;
      named = λ u. went.0.named u ∙ named_so u;
    })

  pub leaves_so : Leads (Dropped c t k frames d m v) (leaves (one_stream for_one) t job.stage after v)
  leaves_so = by job.stage its.ask.phase refl refl its.stage
    where
      at_held : (p i : ℕ) → job.stage ≡ Held p (under i) → IsThere p its.ask.phase → entry_at i s.inner ≡ Some t → LinkFits c d m frames (dues v0) v0.ticket p → Leads (Dropped c t k frames d m v) (leaves (one_stream for_one) t (Held p (under i)) after v)
      at_held p i e th own (IsNone a b away) = absurd (not_both p (m.asks k) its.ask its.is (away k) th)
      at_held p i e th own (IsSome l x at link) = held_left p i e th own l at

      by : (at : Stage) (phase : Phase) → job.stage ≡ at → its.ask.phase ≡ phase → StageFits nothing_under_way d (dues v0) t at phase → Leads (Dropped c t k frames d m v) (leaves (one_stream for_one) t at after v)
      by at phase e f (AtWaiting a b l) = subst (λ at. Leads (Dropped c t k frames d m v) (leaves (one_stream for_one) t at after v)) (sym a) (waits_left (e ∙ a) (f ∙ b))
      by at phase e f (AtResting i until a b own h) = subst (λ at. Leads (Dropped c t k frames d m v) (leaves (one_stream for_one) t at after v)) (sym a) (rests_left i until (e ∙ a) (f ∙ b) own)
      by at phase e f (AtHeld p i a b own) = subst (λ at. Leads (Dropped c t k frames d m v) (leaves (one_stream for_one) t at after v)) (sym a) (at_held p i (e ∙ a) (subst (IsThere p) (sym f) b) own (st.server.links p))
      by at phase e f (HasFailed p i a b own h) = absurd h
      by at phase e f (IsToHand l w h) = absurd l
