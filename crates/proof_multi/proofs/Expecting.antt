-- A request waits for the place that opens, or has one opened.
use Rattle.std.proofs.Common.{◌≡◌, ℕ, suc, ◌+◌, ◌<◌, ◌≤◌, inl, inr, Bool, true, false, List, ◌∷◌, Option, Some, None, refl, sym, ap, subst, ◌∙◌, arith, le_refl, append-nil}
use Rattle.std.specs.Prelude.{option_and_then, if◌then◌else◌, nat_lt}
use Rattle.std.proofs.lemmas.Bool.Decides.{nat_tests}
use Rattle.client_request.specs.Numbered.{puts, entry_at}
use Rattle.client_request.specs.Request.{Request}
use Rattle.client_request.specs.Timers.{can_draw}
use Rattle.client_request.specs.View.{View, asks}
use Rattle.client_request.specs.declared.board.Posted.{Posted}
use Rattle.client_request.specs.declared.event.Out.TheVariants.{OpenStream}
use Rattle.client_request.specs.Requests.{for_one}
use Rattle.client_multi.specs.Links.{Link, one_stream}
use Rattle.client_multi.specs.MultiStream.{waits, opens, goes_on, backs_off}
use Rattle.client_multi.specs.declared.multi_stream.job.Job.{Job}
use Rattle.right_trace.specs.Messages.{Octets}
use Rattle.proof_right.specs.machine.Streams.{Phase, Free, Expecting, Asker, Conn, Multi, Nothing, Puts, Expects, Opens, IsFull, moved, move}
use Rattle.proof_parts.specs.Connections.{dues, IsPostedTo}
use Rattle.proof_parts.specs.PartTie.{Leads}
use Rattle.proof_parts.specs.Sights.{sight}
use Rattle.proof_parts.proofs.GoingOn.{goes_nowhere}
use Rattle.proof_parts.proofs.Keys.{with_here, with_there}
use Rattle.proof_parts.proofs.Running.{runs_one}
use Rattle.proof_parts.proofs.Tables.{sorted_puts, rises_below, absent_above}
use Rattle.proof_multi.specs.Servers.{Desk, Server, desk_of, numbers, names_at, UnderWay, IsLoose, IsBroken, AtWaiting, JobFits, IsServer, AreOrderly, Stands}
use Rattle.proof_multi.proofs.Changing.{Change, kept_link, changed}
use Rattle.proof_multi.proofs.Desks.{desk_with, away_so, name_of, name_is}
use Rattle.proof_multi.proofs.Going.{Went, waits_now}
use Rattle.proof_multi.proofs.Hands.{InHand, hand_of, puts_beside, puts_here, numbers_stay, same_job}
use Rattle.proof_multi.proofs.Resting.{rests_so}
use Rattle.proof_multi.proofs.Waitings.{put_here, put_listed, listed_put, rises_put}
use Rattle.right_trace.specs.Trace.{Conf}

module _ (c : Conf) (server : ℕ) (frames : ℕ → List Octets) (t : ℕ) (job : Job Request) (todo : List (ℕ × Phase)) (failed : List Posted) (s : Server) (m : Multi) (v : View)
    (st : Stands c (record { todo = (t, Free) ∷ todo; failed = failed }) (desk_with t (waits_now job) s) s m frames v) (below : t < v.ticket) (once : (phase : Phase) → IsLoose t phase todo → ⊥) where
  abbrev y : UnderWay
  y = record { todo = (t, Free) ∷ todo; failed = failed }

  abbrev z : UnderWay
  z = record { todo = todo; failed = failed }

  abbrev d : Desk
  d = desk_with t (waits_now job) s

  h : InHand c t job Free y s m v
  h = hand_of c frames t job Free todo y s m v refl st

  abbrev a : Asker
  a = h.its.ask

  abbrev job2 : Job Request
  job2 = waits_now job

  -- it waits; which place opens is the same for both
  module _ (o x : Option ℕ) (same : o ≡ x) where
    abbrev to : Server
    to = record (waits t job s) { opening = o }

    abbrev n : Multi
    n = record (move job.number a Expecting m) { opening = x }

    fits : JobFits c z (desk_of to) n (dues v) t job2
    fits = record {
      ask = moved a Expecting;
      is = with_here job.number (Some (moved a Expecting)) m.asks;
      request = h.its.request;
      octets = h.its.octets;
      end = h.its.end;
      over = h.its.over;
      stage = AtWaiting refl refl (put_here t s.waiting);
    }

    change : Change c t job.number y z d (desk_of to) m n (dues v) (dues v)
    change = record {
      jobs = λ u ne. puts_beside t job2 (Some job2) s.jobs u ne;
      timers = λ i u ne is. (is, refl);
      timers_back = λ i u ne is. is;
      inner = λ i u ne is. is;
      inner_back = λ i u ne is. is;
      waiting = λ u ne l. put_listed t u s.waiting l;
      waiting_back = λ u ne l. elim (listed_put t u s.waiting l) [ inl e ↦ absurd (ne e) | inr l ↦ l ];
      asks = λ j ne. with_there job.number (Some (moved a Expecting)) m.asks j ne;
      todo = λ u phase ne l. elim l [ inl e ↦ absurd (ne e.0) | inr l ↦ l ];
      todo_back = λ u phase ne l. inr l;
      failed = λ i u ne is posted. posted;
      own = h.own;
      number = h.number;
      fits = λ j is. (let e : job2 ≡ j = same_job (entry_at t (puts t job2 s.jobs)) job2 j (puts_here t job2 s.jobs) is in
          (subst (λ j. JobFits c z (desk_of to) n (dues v) t j) e fits, sym (ap (λ (j : Job Request). j.number) e)));
      asked = λ b is. (job2, puts_here t job2 s.jobs);
      own_timers = λ i is. (job2, puts_here t job2 s.jobs, inl (h.ends i is));
      own_inner = λ i is. absurd (h.inner i is);
      own_waiting = λ l. (job2, moved a Expecting, puts_here t job2 s.jobs, refl, with_here job.number (Some (moved a Expecting)) m.asks, refl);
      own_todo = λ phase l. absurd (once phase l);
      failing = λ i j posted named. failing i j posted named;
      opening = same;
      calm = st.server.tables.calm;
    }
      where
        failing : (i j : ℕ) → IsPostedTo i failed → names_at (desk_of to) i ≡ Some j → IsBroken j n
        failing i j posted named =
            let q = name_of (desk_of to) i j named in
            let other : t ≡ q.0 → ⊥ = λ e. h.inner i (q.2 ∙ ap Some (sym e)) in
            let was : d.jobs q.0 ≡ Some q.1 = sym (puts_beside t job2 (Some job2) s.jobs q.0 other) ∙ q.3 in
            let b = st.server.tables.failing i j posted (name_is d i q.0 q.1 q.2 was ∙ ap Some q.4) in
            (b.0, with_there job.number (Some (moved a Expecting)) m.asks j (λ e. other (h.own q.0 q.1 was (q.4 ∙ sym e))) ∙ b.1, b.2)

    server_waits : IsServer c z (desk_of to) n frames (dues v) v.ticket
    server_waits = record {
      tables = changed c t job.number y z d (desk_of to) m n frames (dues v) (dues v) v.ticket v.ticket st.server.tables change;
      links = λ p. kept_link c t job.number y z d (desk_of to) m n frames (dues v) (dues v) v.ticket v.ticket st.server.tables change frames p refl refl refl (h.away p)
          (away_so p (n.asks job.number) (moved a Expecting) (with_here job.number (Some (moved a Expecting)) m.asks) (λ q. q)) (λ l i is own. refl) (le_refl v.ticket) (st.server.links p);
      watched = st.server.watched;
    }

    names : (u : ℕ) → numbers (desk_of to) u ≡ numbers d u
    names u = numbers_stay t d (desk_of to) (λ u ne. puts_beside t job2 (Some job2) s.jobs u ne) job2 job2 h.here (puts_here t job2 s.jobs) refl u

    jobs_order : AreOrderly s (sight v) → (p : ℕ) → v.place ≤ p → ((q : ℕ) → o ≡ Some q → (q < p) × (entry_at q s.connections ≡ None)) → AreOrderly to (record (sight v) { place = p })
    jobs_order old p le opening = record {
      jobs = sorted_puts t job2 0 v.ticket s.jobs (least t) below old.jobs;
      timers = old.timers;
      inner = old.inner;
      waiting = rises_put t 0 v.ticket s.waiting (least t) below old.waiting;
      connections = rises_below (λ (e : ℕ × Link Request). e.0) 0 v.place p s.connections le old.connections;
      watches = old.watches;
      opening = opening;
    }
      where
        least : (n : ℕ) → 0 ≤ n
        least n = omega arith

  -- a place opens: it waits for that
  expects_so : (p : ℕ) → s.opening ≡ Some p → Went c server frames z d m v (waits t job s) v
  expects_so p is = record {
    made = _;
    runs = runs_one c server v.now v.place m Nothing (n s.opening m.opening st.server.tables.opening) (Expects job.number a p h.its.is h.phase (sym st.server.tables.opening ∙ is));
    posts = refl;
    outs = sym (append-nil v.outs);
    place = refl;
    board = refl;
    more = refl;
    stands = record { server = server_waits s.opening m.opening st.server.tables.opening; order = jobs_order s.opening m.opening st.server.tables.opening st.order v.place (le_refl v.place) st.order.opening; fair = st.fair };
    on = goes_nowhere v st.fair;
    owned = λ i own. inl own;
    others = λ i due none is. is;
    named = names s.opening m.opening st.server.tables.opening;
    quiet = λ q. q;
  }

  -- one is opened
  opens_one : s.opening ≡ None → ((p : ℕ) (x : Conn) → m.conns p ≡ Some x → IsFull x)
      → Went c server frames z d m v (record (waits t job s) { opening = Some v.place }) (asks (OpenStream v.place server) (record v { place = v.place + 1 }))
  opens_one none full = record {
    made = _;
    runs = runs_one c server v.now v.place m (Puts (OpenStream v.place server)) (n (Some v.place) (Some v.place) refl) (Opens job.number a h.its.is h.phase (sym st.server.tables.opening ∙ none) full);
    posts = refl;
    outs = refl;
    place = next v.place;
    board = refl;
    more = refl;
    stands = record {
      server = server_waits (Some v.place) (Some v.place) refl;
      order = jobs_order (Some v.place) (Some v.place) refl st.order (v.place + 1) (up v.place) (λ q e. (
        subst (λ q. q < v.place + 1) (let f : v.place ≡ q = cc in f) (over v.place),
        absent_above 0 v.place q s.connections (subst (λ q. v.place ≤ q) (let f : v.place ≡ q = cc in f) (le_refl v.place)) st.order.connections,
      ));
      fair = record { order = st.fair.order; words = st.fair.words };
    };
    on = record { fair = record { order = st.fair.order; words = st.fair.words }; now = refl; timer = le_refl v.timers.next; ticket = le_refl v.ticket; place = up v.place; later = λ i due e. inl e };
    owned = λ i own. inl own;
    others = λ i due no is. is;
    named = names (Some v.place) (Some v.place) refl;
    quiet = λ q. q;
  }
    where
      next : (n : ℕ) → n + 1 ≡ suc n
      next n = omega arith

      up : (n : ℕ) → n ≤ n + 1
      up n = omega arith

      over : (n : ℕ) → n < n + 1
      over n = omega arith

  -- no connection has room
  pub goes_on_so : ((p : ℕ) (x : Conn) → m.conns p ≡ Some x → IsFull x) → Leads (Went c server frames z d m v) (goes_on (one_stream for_one) server t job s v s.opening)
  goes_on_so full = by s.opening refl
    where
      by_room : (b : Bool) → s.opening ≡ None → Leads (Went c server frames z d m v) (option_and_then (λ w. Some (record (waits t job s) { opening = Some v.place }, asks (OpenStream v.place server) w)) (if b then Some (record v { place = v.place + 1 }) else None))
      by_room true e = opens_one e full
      by_room false e = tt

      calm_before : (i j k : ℕ) → nat_lt i j ≡ true → j ≤ k → i < k
      calm_before i j k e le = grind (arith, nat_tests)

      by_calm : (b : Bool) → nat_lt v.now s.calm ≡ b → s.opening ≡ None → Leads (Went c server frames z d m v) (if b then backs_off t job s v else opens (one_stream for_one) server t job s v)
      by_calm true f e = rests_so c server frames t job Free todo failed s m v st below once (inr (refl, calm_before v.now s.calm m.calm f st.server.tables.calm))
      by_calm false f e = by_room (can_draw v.place) e

      by : (o : Option ℕ) → s.opening ≡ o → Leads (Went c server frames z d m v) (goes_on (one_stream for_one) server t job s v o)
      by (Some p) e = expects_so p e
      by None e = by_calm (nat_lt v.now s.calm) refl e
