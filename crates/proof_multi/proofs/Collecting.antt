-- What a connection posted is collected: errors, for requests that are to back off.
use Rattle.std.proofs.Common.{◌≡◌, ◌≢◌, ℕ, ◌⊎◌, inl, inr, false, List, [], ◌∷◌, Option, Some, None, refl, sym, ap, subst, ◌∙◌, le_refl}
use Rattle.std.specs.Prelude.{option_and_then, Err}
use Rattle.client_request.specs.Numbered.{frees, entry_at}
use Rattle.client_request.specs.Request.{Request}
use Rattle.client_request.specs.View.{View}
use Rattle.client_request.specs.declared.board.Posted.{Posted}
use Rattle.client_request.specs.declared.error.Error.{Error}
use Rattle.client_request.specs.declared.error.Error.TheVariants as errors
use Rattle.client_stream.specs.Plain.{Asked}
use Rattle.client_multi.specs.Links.{Link}
use Rattle.client_multi.specs.MultiStream.{collects, collects_one, gets_at, gets, gets_part, backs_off, is_result}
use Rattle.client_multi.specs.declared.multi_stream.job.Job.{Job}
use Rattle.client_multi.specs.declared.multi_stream.job.Stage.{Stage}
use Rattle.client_multi.specs.declared.multi_stream.job.Stage.TheVariants.{Waiting, Resting, Held}
use Rattle.right_trace.specs.Messages.{Octets}
use Rattle.proof_right.specs.machine.Streams.{Phase, Free, Broken, Asker, Multi}
use Rattle.proof_parts.specs.Connections.{dues}
use Rattle.proof_parts.specs.PartTie.{Leads}
use Rattle.proof_parts.specs.Runs.{AreFailing}
use Rattle.proof_parts.specs.Seats.{IsAway}
use Rattle.proof_parts.proofs.Keys.{with_here, with_there, was_there}
use Rattle.proof_parts.proofs.Tables.{at_frees, sorted_frees, frees_nothing, present_below}
use Rattle.proof_multi.specs.Servers.{Desk, Server, desk_of, numbers, UnderWay, IsLoose, IsThere, under, StageFits, AtWaiting, AtResting, AtHeld, HasFailed, IsToHand, JobFits, AreTables, Owns, Stands}
use Rattle.proof_multi.proofs.Changing.{Change, kept_link, changed}
use Rattle.proof_multi.proofs.Desks.{desk_with, away_so, name_of, name_is}
use Rattle.proof_multi.proofs.Going.{Went, waits_now, went_nowhere, went_then, leads_on, leads_as}
use Rattle.proof_multi.proofs.Hands.{numbers_stay, same_job, same_asker}
use Rattle.proof_multi.proofs.Resting.{rests_so}
use Rattle.right_trace.specs.Trace.{Conf}

no_result : (e : Error) → e ≢ errors.WrongReplyForQuery → is_result (Err e) ≡ false
no_result errors.ConnectionClosed ne = refl
no_result errors.OptTooLong ne = refl
no_result errors.MessageBuilderPushError ne = refl
no_result errors.MessageParseError ne = refl
no_result errors.RedundantTransportNotFound ne = refl
no_result errors.FormError ne = refl
no_result errors.ShortMessage ne = refl
no_result errors.StreamLongMessage ne = refl
no_result errors.StreamIdleTimeout ne = refl
no_result errors.StreamReceiveError ne = refl
no_result (errors.StreamReadError f) ne = refl
no_result errors.StreamReadTimeout ne = refl
no_result errors.StreamTooManyOutstandingQueries ne = refl
no_result (errors.StreamWriteError f) ne = refl
no_result errors.StreamUnexpectedEndOfData ne = refl
no_result errors.NoTransportAvailable ne = refl
no_result (errors.Dgram q) ne = refl
no_result errors.NoMemory ne = refl
no_result errors.NumbersUsed ne = refl
no_result errors.TimedOut ne = refl
no_result errors.AlreadyDone ne = refl
no_result errors.Failed ne = refl
no_result errors.WrongReplyForQuery ne = absurd (ne refl)

-- each is an error that is no result
abbrev pub AreErrors : List Posted → Type 0
AreErrors [] = Unit {0}
AreErrors (x ∷ xs) = (is_result x.part ≡ false) × AreErrors xs

pub failing_errors : (names : ℕ → Option ℕ) (asks : ℕ → Option Asker) (xs : List Posted) → AreFailing names asks xs → AreErrors xs
failing_errors names asks [] f = tt
failing_errors names asks (x ∷ xs) f = (ap is_result f.0.1 ∙ no_result f.0.0 f.0.2, failing_errors names asks xs f.2)

-- the same as seen from tables that differ in nothing that counts
pub went_from : (c : Conf) (server : ℕ) (frames : ℕ → List Octets) (z : UnderWay) (d : Desk) (m : Multi) (v : View) (t : Server) (w : View) (e : Desk) → e.timers ≡ d.timers → e.links ≡ d.links → ((u : ℕ) → numbers d u ≡ numbers e u) → Went c server frames z d m v t w → Went c server frames z e m v t w
went_from c server frames z d m v t w e timers links named a = record {
  made = a.made;
  runs = a.runs;
  posts = a.posts;
  outs = a.outs;
  place = a.place;
  board = a.board;
  more = a.more;
  stands = a.stands;
  on = a.on;
  owned = λ i o. elim (a.owned i o) [ inl p ↦ inl (owns i p) | inr le ↦ inr le ];
  others = λ i due n is. a.others i due (λ o. n (owns i o)) is;
  named = λ u. a.named u ∙ named u;
  quiet = a.quiet;
}
  where
    owns : (i : ℕ) → Owns d i → Owns e i
    owns i (inl o) = inl (o.0, ap (λ (f : ℕ → Option ℕ). f i) timers ∙ o.1)
    owns i (inr o) = inr (o.0, o.1, ap (λ (f : ℕ → Option (Link Request)). f o.0) links ∙ o.2, o.3)

module _ (c : Conf) (server : ℕ) (frames : ℕ → List Octets) (todo : List (ℕ × Phase)) where
  abbrev failing_as : List Posted → UnderWay
  failing_as xs = record { todo = todo; failed = xs }

  -- One that is for nobody
  module _ (x : Posted) (xs : List Posted) (s : Server) (n : Multi) (w : View) (st : Stands c (failing_as (x ∷ xs)) (desk_of s) s n frames w) (none : entry_at x.ticket s.inner ≡ None) where
    stage : (t : ℕ) (at : Stage) (phase : Phase) → StageFits (failing_as (x ∷ xs)) (desk_of s) (dues w) t at phase → StageFits (failing_as xs) (desk_of s) (dues w) t at phase
    stage t at phase (AtWaiting a b l) = AtWaiting a b l
    stage t at phase (AtResting i until a b o h) = AtResting i until a b o h
    stage t at phase (AtHeld p i a b o) = AtHeld p i a b o
    stage t at phase (HasFailed p i a b o (inl e)) = absurd (let z : None ≡ Some t = sym none ∙ (ap (λ i. entry_at i s.inner) e ∙ o) in cc)
    stage t at phase (HasFailed p i a b o (inr h)) = HasFailed p i a b o h
    stage t at phase (IsToHand l h b) = IsToHand l h b

    one_less : Stands c (failing_as xs) (desk_of s) s n frames w
    one_less = record {
      server = record {
        tables = record {
          jobs = λ t job is. (let j = st.server.tables.jobs t job is in record { ask = j.ask; is = j.is; request = j.request; octets = j.octets; end = j.end; over = j.over; stage = stage t job.stage j.ask.phase j.stage });
          asked = st.server.tables.asked;
          apart = st.server.tables.apart;
          timers = st.server.tables.timers;
          inner = st.server.tables.inner;
          waiting = st.server.tables.waiting;
          todo = st.server.tables.todo;
          failing = λ i k post named. st.server.tables.failing i k (inr post) named;
          opening = st.server.tables.opening;
          calm = st.server.tables.calm;
        };
        links = st.server.links;
        watched = st.server.watched;
      };
      order = st.order;
      fair = st.fair;
    }

  -- One that is for a request: it is in hand, to back off
  module _ (x : Posted) (xs : List Posted) (s : Server) (n : Multi) (w : View) (st : Stands c (failing_as (x ∷ xs)) (desk_of s) s n frames w) (t : ℕ) (is : entry_at x.ticket s.inner ≡ Some t) where
    abbrev T : AreTables c (failing_as (x ∷ xs)) (desk_of s) n (dues w)
    T = st.server.tables

    has : (job : Job Request) × (p : ℕ) × (entry_at t s.jobs ≡ Some job) × (job.stage ≡ Held p (under x.ticket))
    has = T.inner x.ticket t is

    abbrev job : Job Request
    job = has.0

    its : JobFits c (failing_as (x ∷ xs)) (desk_of s) n (dues w) t job
    its = T.jobs t job has.2

    broken : its.ask.phase ≡ Broken
    broken = let b = T.failing x.ticket job.number (inl refl) (name_is (desk_of s) x.ticket t job is has.2) in ap (λ (a : Asker). a.phase) (same_asker (n.asks job.number) its.ask b.0 its.is b.1) ∙ b.2

    abbrev after : Server
    after = record s { inner = frees x.ticket s.inner; jobs = frees t s.jobs }

    abbrev y : UnderWay
    y = record { todo = (t, Broken) ∷ todo; failed = xs }

    abbrev e : Desk
    e = desk_with t (waits_now job) after

    here : e.jobs t ≡ Some (waits_now job)
    here = with_here t (Some (waits_now job)) (λ j. entry_at j after.jobs)

    beside : (u : ℕ) → (t ≡ u → ⊥) → e.jobs u ≡ entry_at u s.jobs
    beside u ne = with_there t (Some (waits_now job)) (λ j. entry_at j after.jobs) u ne ∙ (at_frees t u 0 w.ticket s.jobs st.order.jobs ∙ with_there t None (λ j. entry_at j s.jobs) u ne)

    old_inner : (i u : ℕ) → e.inner i ≡ Some u → (x.ticket ≡ i → ⊥) × (entry_at i s.inner ≡ Some u)
    old_inner i u at = was_there x.ticket (λ j. entry_at j s.inner) i u (sym (at_frees x.ticket i 0 w.ticket s.inner st.order.inner) ∙ at)

    -- it has no other ticket, and is not otherwise under way
    only_held : (other : Job Request) → entry_at t s.jobs ≡ Some other → other.stage ≡ Held has.1 (under x.ticket)
    only_held other at = ap (λ (j : Job Request). j.stage) (same_job (entry_at t s.jobs) other job at has.2) ∙ has.3

    only_inner : (i : ℕ) → e.inner i ≡ Some t → ⊥
    only_inner i at =
        let o = old_inner i t at in
        let q = T.inner i t o.1 in
        let h : Held q.1 (under i) ≡ Held has.1 (under x.ticket) = sym q.3 ∙ only_held q.0 q.2 in
        let u : under i ≡ under x.ticket = cc in
        o.0 (sym (ap (λ (r : Asked). r.ticket) u))

    not_waiting : (other : Job Request) → entry_at t s.jobs ≡ Some other → other.stage ≡ Waiting → ⊥
    not_waiting other at h = let z : Waiting ≡ Held has.1 (under x.ticket) = sym h ∙ only_held other at in cc

    numbers_so : (u : ℕ) → numbers e u ≡ numbers (desk_of s) u
    numbers_so u = numbers_stay t (desk_of s) e beside job (waits_now job) has.2 here refl u

    change : Change c t job.number (failing_as (x ∷ xs)) y (desk_of s) e n n (dues w) (dues w)
    change = record {
      jobs = beside;
      timers = λ i u ne at. (at, refl);
      timers_back = λ i u ne at. at;
      inner = λ i u ne at. at_frees x.ticket i 0 w.ticket s.inner st.order.inner ∙ (with_there x.ticket None (λ j. entry_at j s.inner) i (other i u ne at) ∙ at);
      inner_back = λ i u ne at. (old_inner i u at).1;
      waiting = λ u ne l. l;
      waiting_back = λ u ne l. l;
      asks = λ j ne. refl;
      todo = λ u phase ne l. inr l;
      todo_back = λ u phase ne l. elim l [ inl e ↦ absurd (ne e.0) | inr l ↦ l ];
      failed = λ i u ne at l. elim l [ inl e ↦ absurd (other i u ne at e) | inr l ↦ l ];
      own = λ u j at same. T.apart t u job j has.2 at (sym same);
      number = λ j at. ap (λ (j : Job Request). j.number) (same_job (entry_at t s.jobs) j job at has.2);
      fits = λ j at. (let q : waits_now job ≡ j = same_job (e.jobs t) (waits_now job) j here at in (subst (λ j. JobFits c y e n (dues w) t j) q fits, sym (ap (λ (j : Job Request). j.number) q)));
      asked = λ a at. (waits_now job, here);
      own_timers = λ i at. (let o = T.timers i t at in (
        waits_now job,
        here,
        elim o.2 [
          | inl q ↦ inl (sym (ap (λ (j : Job Request). j.end) (same_job (entry_at t s.jobs) o.0 job o.1 has.2)) ∙ q)
          | inr q ↦ absurd (let z : Resting i ≡ Held has.1 (under x.ticket) = sym q ∙ only_held o.0 o.1 in cc)
        ],
      ));
      own_inner = λ i at. absurd (only_inner i at);
      own_waiting = λ l. (let o = T.waiting t l in absurd (not_waiting o.0 o.2 o.3));
      own_todo = λ phase l. own_todo phase l;
      failing = λ i j post named. (let o = name_of e i j named in let q = old_inner i o.0 o.2 in
          T.failing i j (inr post) (ap (option_and_then (numbers (desk_of s))) q.1 ∙ (sym (numbers_so o.0) ∙ (sym (ap (option_and_then (numbers e)) o.2) ∙ named))));
      opening = T.opening;
      calm = T.calm;
    }
      where
        other : (i u : ℕ) → (t ≡ u → ⊥) → entry_at i s.inner ≡ Some u → x.ticket ≡ i → ⊥
        other i u ne at same = let z : Some t ≡ Some u = sym is ∙ (ap (λ i. entry_at i s.inner) same ∙ at) in ne (cc)

        fits : JobFits c y e n (dues w) t (waits_now job)
        fits = record { ask = its.ask; is = its.is; request = its.request; octets = its.octets; end = its.end; over = its.over; stage = IsToHand (inl (refl, sym broken)) refl (inr broken) }

        own_todo : (phase : Phase) → IsLoose t phase ((t, Broken) ∷ todo) → (j : Job Request) × (a : Asker) × (e.jobs t ≡ Some j) × (j.stage ≡ Waiting) × (n.asks j.number ≡ Some a) × (a.phase ≡ phase) × ((phase ≡ Free) ⊎ (phase ≡ Broken))
        own_todo phase (inl q) = (waits_now job, its.ask, here, refl, its.is, broken ∙ q.1, inr (sym q.1))
        own_todo phase (inr l) = let o = T.todo t phase l in absurd (not_waiting o.0 o.2 o.3)

    nowhere : (p : ℕ) → IsAway p (n.asks job.number)
    nowhere p = away_so p (n.asks job.number) its.ask its.is (λ h. subst (IsThere p) broken h)

    in_hand : Stands c y e after n frames w
    in_hand = record {
      server = record {
        tables = changed c t job.number (failing_as (x ∷ xs)) y (desk_of s) e n n frames (dues w) (dues w) w.ticket w.ticket T change;
        links = λ p. kept_link c t job.number (failing_as (x ∷ xs)) y (desk_of s) e n n frames (dues w) (dues w) w.ticket w.ticket T change frames p refl refl refl (nowhere p) (nowhere p) (λ l i at own. refl) (le_refl w.ticket) (st.server.links p);
        watched = st.server.watched;
      };
      order = record {
        jobs = sorted_frees t 0 w.ticket s.jobs st.order.jobs;
        timers = st.order.timers;
        inner = sorted_frees x.ticket 0 w.ticket s.inner st.order.inner;
        waiting = st.order.waiting;
        connections = st.order.connections;
        watches = st.order.watches;
        opening = st.order.opening;
      };
      fair = st.fair;
    }

    rests_then : Leads (Went c server frames (failing_as xs) (desk_of s) n w) (backs_off t job after w)
    rests_then = leads_as (Went c server frames (failing_as xs) e n w) (Went c server frames (failing_as xs) (desk_of s) n w) (backs_off t job after w)
        (rests_so c server frames t job Broken todo xs after n w in_hand (present_below t 0 w.ticket job s.jobs st.order.jobs has.2) (λ phase l. (let o = T.todo t phase l in not_waiting o.0 o.2 o.3)) (inl refl))
        (λ r u a. went_from c server frames (failing_as xs) e n w r u (desk_of s) refl refl numbers_so a)

  pub collects_so : (posts : List Posted) (s : Server) (n : Multi) (w : View) → Stands c (failing_as posts) (desk_of s) s n frames w → AreErrors posts → Leads (Went c server frames (failing_as []) (desk_of s) n w) (collects posts s w)
  collects_so [] s n w st errs = went_nowhere c server frames (failing_as []) s n w st
  collects_so (x ∷ xs) s n w st errs =
      leads_on (Went c server frames (failing_as xs) (desk_of s) n w) (Went c server frames (failing_as []) (desk_of s) n w) (λ r u. collects xs r u) (collects_one x s w) (by (entry_at x.ticket s.inner) refl)
      (λ r u a. leads_as (Went c server frames (failing_as []) (desk_of r) a.made.state u) (Went c server frames (failing_as []) (desk_of s) n w) (collects xs r u) (collects_so xs r a.made.state u a.stands errs.1)
      (λ r2 u2 b. went_then c server frames (failing_as xs) (failing_as []) (desk_of s) n w r u r2 u2 st.fair a b))
    where
      by : (o : Option ℕ) → entry_at x.ticket s.inner ≡ o → Leads (Went c server frames (failing_as xs) (desk_of s) n w) (gets_at x.part (record s { inner = frees x.ticket s.inner }) w o)
      by None e = subst (λ (inner : List (ℕ × ℕ)). Leads (Went c server frames (failing_as xs) (desk_of s) n w) (Some (record s { inner = inner }, w))) (sym (frees_nothing x.ticket s.inner e)) (went_nowhere c server frames (failing_as xs) s n w (one_less x xs s n w st e))
      by (Some t) e =
          subst (λ (o : Option (Job Request)). Leads (Went c server frames (failing_as xs) (desk_of s) n w) (gets t x.part (record s { inner = frees x.ticket s.inner }) w o)) (sym (has x xs s n w st t e).2)
          (subst (λ b. Leads (Went c server frames (failing_as xs) (desk_of s) n w) (gets_part b t (has x xs s n w st t e).0 x.part (record s { inner = frees x.ticket s.inner; jobs = frees t s.jobs }) w)) (sym errs.0)
          (rests_then x xs s n w st t e))
