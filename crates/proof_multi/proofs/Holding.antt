-- A request is handed on: to a connection with room, or to the place that opens, or it backs off.
use Rattle.std.proofs.Common.{◌≡◌, ℕ, ◌+◌, ◌<◌, ◌≤◌, inl, inr, false, List, [], ◌∷◌, Option, Some, None, refl, sym, ap, ap₂, subst, ◌∙◌, arith, le_refl}
use Rattle.std.specs.Prelude.{option_and_then}
use mathlib.Core.Path.{fun_ext}
use Rattle.client_request.specs.Numbered.{puts, entry_at}
use Rattle.client_request.specs.Request.{Request}
use Rattle.client_request.specs.Requests.{for_one, for_several}
use Rattle.client_request.specs.View.{View}
use Rattle.client_stream.specs.Plain.{asked, takes_on}
use Rattle.client_stream.specs.declared.request.AnyRequest.TheVariants.{Single}
use Rattle.client_multi.specs.Links.{Link, one_stream}
use Rattle.client_multi.specs.MultiStream.{hands, hands_at, holds, with_room, without_found, taken, returns, lent}
use Rattle.client_multi.specs.declared.multi_stream.job.Job.{Job}
use Rattle.client_multi.specs.declared.multi_stream.job.Stage.TheVariants.{Held}
use Rattle.right_trace.specs.Messages.{Octets}
use Rattle.proof_right.specs.machine.Streams.{Phase, Free, Lined, Asker, Conn, Multi, Nothing, Joins, IsFull, moved, move}
use Rattle.right_trace.specs.Updates.{with_at}
use Rattle.proof_parts.specs.Chains.{then_act}
use Rattle.proof_parts.specs.Connections.{dues, HasPumped, lined_up}
use Rattle.proof_parts.specs.Lines.{SingleLine, IsLineAt}
use Rattle.proof_parts.specs.Octets.{IsLinkAt}
use Rattle.proof_parts.specs.PartTie.{Leads}
use Rattle.proof_parts.specs.Reading.{Keeps}
use Rattle.proof_parts.specs.Runs.{Runs_on, made_by, AreFailing}
use Rattle.proof_parts.specs.Sights.{sight, IsFair}
use Rattle.proof_parts.proofs.Calling.{is_open, line_lined, queues_so}
use Rattle.proof_parts.proofs.Keys.{with_here, with_there, is_or_was, each_number}
use Rattle.proof_parts.proofs.Tables.{at_puts, sorted_puts, rises_below, absent_above}
use Rattle.proof_multi.specs.Servers.{Desk, Server, desk_of, numbers, names_at, UnderWay, IsLoose, under, AtHeld, JobFits, LinkFits, IsNone, IsSome, AreTables, AreOrderly, NoneHeard, Stands}
use Rattle.proof_multi.proofs.Calling.{CallLeft}
use Rattle.proof_multi.proofs.Changing.{Change, kept_link, changed}
use Rattle.proof_multi.proofs.Desks.{desk_with, away_so, name_of, name_is}
use Rattle.proof_multi.proofs.Expecting.{goes_on_so}
use Rattle.proof_multi.proofs.Going.{Went, waits_now, leads_as}
use Rattle.proof_multi.proofs.Hands.{InHand, hand_of, puts_beside, puts_here, puts_there, numbers_stay, same_job, same_link}
use Rattle.proof_multi.proofs.Returning.{returns_so}
use Rattle.proof_multi.proofs.Rooms.{room_found, room_full, full_line}
use Rattle.proof_multi.proofs.Seated.{is_at, there_at}
use Rattle.right_trace.specs.Trace.{Conf}

-- the connection that stands at a place
pub link_at : (conf : Conf) (d : Desk) (m : Multi) (frames : ℕ → List Octets) (f : ℕ → Option ℕ) (ticket p : ℕ) (c : Link Request) → LinkFits conf d m frames f ticket p → d.links p ≡ Some c → (x : Conn) × IsLinkAt conf p (names_at d) c m x (frames p) f ticket
link_at conf d m frames f ticket p c (IsNone a b away) is = absurd (let z : None ≡ Some c = sym a ∙ is in cc)
link_at conf d m frames f ticket p c (IsSome l x a link) is = (x, subst (λ l. IsLinkAt conf p (names_at d) l m x (frames p) f ticket) (same_link (d.links p) l c a is) link)

module _ (conf : Conf) (server : ℕ) (frames : ℕ → List Octets) (t : ℕ) (job : Job Request) (todo : List (ℕ × Phase)) (s : Server) (m : Multi) (v : View)
    (st : Stands conf (record { todo = (t, Free) ∷ todo; failed = [] }) (desk_with t (waits_now job) s) s m frames v) (below : t < v.ticket) (once : (phase : Phase) → IsLoose t phase todo → ⊥) (quiet : NoneHeard m) where
  abbrev y : UnderWay
  y = record { todo = (t, Free) ∷ todo; failed = [] }

  abbrev z : UnderWay
  z = record { todo = todo; failed = [] }

  abbrev d : Desk
  d = desk_with t (waits_now job) s

  h : InHand conf t job Free y s m v
  h = hand_of conf frames t job Free todo y s m v refl st

  abbrev a : Asker
  a = h.its.ask

  abbrev k : ℕ
  k = job.number

  abbrev i0 : ℕ
  i0 = v.ticket

  up : (n : ℕ) → n ≤ n + 1
  up n = omega arith

  over : (n : ℕ) → n < n + 1
  over n = omega arith

  least : (n : ℕ) → 0 ≤ n
  least n = omega arith

  -- to the connection c at p
  module _ (p : ℕ) (c : Link Request) (is : entry_at p s.connections ≡ Some c) where
    found : (x : Conn) × IsLinkAt conf p (names_at d) c m x (frames p) (dues v) v.ticket
    found = link_at conf d m frames (dues v) v.ticket p c (st.server.links p) is

    abbrev x : Conn
    x = found.0

    link : IsLinkAt conf p (names_at d) c m x (frames p) (dues v) v.ticket
    link = found.1

    abbrev job2 : Job Request
    job2 = record job { stage = Held p (asked i0) }

    abbrev s2 : Server
    s2 = record s { jobs = puts t job2 s.jobs; inner = puts i0 t s.inner }

    abbrev m1 : Multi
    m1 = move k a (Lined p) m

    -- what the connection sees
    abbrev u : View
    u = lent (record v { request = k })

    none_next : (i u : ℕ) → entry_at i s.inner ≡ Some u → i0 ≡ i → ⊥
    none_next i u at e = let none = absent_above 0 i0 i s.inner (at_most i0 i e) st.order.inner in let q : None ≡ Some u = sym none ∙ at in cc
      where
        at_most : (a b : ℕ) → a ≡ b → a ≤ b
        at_most a b e = omega arith

    moved_is : m1.asks k ≡ Some (moved a (Lined p))
    moved_is = with_here k (Some (moved a (Lined p))) m.asks

    fits : JobFits conf z (desk_of s2) m1 (dues v) t job2
    fits = record { ask = moved a (Lined p); is = moved_is; request = h.its.request; octets = h.its.octets; end = h.its.end; over = h.its.over; stage = AtHeld p i0 refl refl (puts_here i0 t s.inner) }

    change : Change conf t k y z d (desk_of s2) m m1 (dues v) (dues v)
    change = record {
      jobs = λ u ne. puts_beside t job2 (Some (waits_now job)) s.jobs u ne;
      timers = λ i u ne at. (at, refl);
      timers_back = λ i u ne at. at;
      inner = λ i u ne at. puts_there i0 t s.inner i (none_next i u at) ∙ at;
      inner_back = λ i u ne at. elim (is_or_was i0 (Some t) (λ j. entry_at j s.inner) i u (sym (at_puts i0 t i s.inner) ∙ at)) [ inl b ↦ absurd (ne (let e = b.1 in cc)) | inr b ↦ b.1 ];
      waiting = λ u ne l. l;
      waiting_back = λ u ne l. l;
      asks = λ j ne. with_there k (Some (moved a (Lined p))) m.asks j ne;
      todo = λ u phase ne l. elim l [ inl e ↦ absurd (ne e.0) | inr l ↦ l ];
      todo_back = λ u phase ne l. inr l;
      failed = λ i u ne at posted. posted;
      own = h.own;
      number = h.number;
      fits = λ j at. (let e : job2 ≡ j = same_job (entry_at t (puts t job2 s.jobs)) job2 j (puts_here t job2 s.jobs) at in
          (subst (λ j. JobFits conf z (desk_of s2) m1 (dues v) t j) e fits, sym (ap (λ (j : Job Request). j.number) e)));
      asked = λ b at. (job2, puts_here t job2 s.jobs);
      own_timers = λ i at. (job2, puts_here t job2 s.jobs, inl (h.ends i at));
      own_inner = λ i at. elim (is_or_was i0 (Some t) (λ j. entry_at j s.inner) i t (sym (at_puts i0 t i s.inner) ∙ at)) [
        | inl b ↦ (job2, p, puts_here t job2 s.jobs, ap (λ i. Held p (under i)) b.0)
        | inr b ↦ absurd (h.inner i b.1)
      ];
      own_waiting = λ l. absurd (h.waiting l);
      own_todo = λ phase l. absurd (once phase l);
      failing = λ i j posted named. absurd posted;
      opening = st.server.tables.opening;
      calm = st.server.tables.calm;
    }

    tables1 : AreTables conf z (desk_of s2) m1 (dues v)
    tables1 = changed conf t k y z d (desk_of s2) m m1 frames (dues v) (dues v) v.ticket (v.ticket + 1) st.server.tables change

    links1 : (q : ℕ) → (p ≡ q → ⊥) → LinkFits conf (desk_of s2) m1 frames (dues v) (v.ticket + 1) q
    links1 q ne = kept_link conf t k y z d (desk_of s2) m m1 frames (dues v) (dues v) v.ticket (v.ticket + 1) st.server.tables change frames q refl refl refl (h.away q)
        (away_so q (m1.asks k) (moved a (Lined p)) moved_is (λ e. ne e)) (λ l i at own. refl) (up v.ticket) (st.server.links q)

    order1 : AreOrderly s2 (record (sight v) { ticket = v.ticket + 1 })
    order1 = record {
      jobs = sorted_puts t job2 0 (v.ticket + 1) s.jobs (least t) (lower t v.ticket below) (rises_below (λ (e : ℕ × Job Request). e.0) 0 v.ticket (v.ticket + 1) s.jobs (up v.ticket) st.order.jobs);
      timers = st.order.timers;
      inner = sorted_puts i0 t 0 (v.ticket + 1) s.inner (least i0) (over v.ticket) (rises_below (λ (e : ℕ × ℕ). e.0) 0 v.ticket (v.ticket + 1) s.inner (up v.ticket) st.order.inner);
      waiting = rises_below (λ (t : ℕ). t) 0 v.ticket (v.ticket + 1) s.waiting (up v.ticket) st.order.waiting;
      connections = st.order.connections;
      watches = st.order.watches;
      opening = st.order.opening;
    }
      where
        lower : (t n : ℕ) → t < n → t < n + 1
        lower t n lt = omega arith

    numbers_so : (u : ℕ) → numbers (desk_of s2) u ≡ numbers d u
    numbers_so u = numbers_stay t d (desk_of s2) (λ u ne. puts_beside t job2 (Some (waits_now job)) s.jobs u ne) (waits_now job) job2 h.here (puts_here t job2 s.jobs) refl u

    names_so : with_at i0 (Some k) (names_at d) ≡ names_at (desk_of s2)
    names_so = fun_ext (λ i. each_number (λ i. with_at i0 (Some k) (names_at d) i ≡ names_at (desk_of s2) i) i0
        (with_here i0 (Some k) (names_at d) ∙ sym (name_is (desk_of s2) i0 t job2 (puts_here i0 t s.inner) (puts_here t job2 s.jobs)))
        (λ i ne. with_there i0 (Some k) (names_at d) i ne ∙ ap₂ (λ f o. option_and_then f o) (sym (fun_ext numbers_so)) (sym (puts_there i0 t s.inner i ne))) i)

    new : names_at d i0 ≡ None
    new = ap (option_and_then (numbers d)) (absent_above 0 i0 i0 s.inner (le_refl i0) st.order.inner)

    alone : (j : ℕ) → names_at d j ≡ Some k → ⊥
    alone j named = let o = name_of d j k named in h.inner j (o.2 ∙ ap Some (sym (h.own o.0 o.1 o.3 o.4)))

    fair_u : IsFair u
    fair_u = record { order = st.fair.order; words = st.fair.words }

    heard : x.heard ≡ false
    heard = quiet p x link.line.conn

    -- its line once the request is queued there
    abbrev lined : SingleLine
    lined = lined_up a c.line u

    lined_is : IsLineAt conf p (names_at (desk_of s2)) lined m1 x (dues v) (v.ticket + 1)
    lined_is = subst (λ names. IsLineAt conf p names lined m1 x (dues v) (v.ticket + 1)) names_so
        (line_lined conf server p c.settings link.timeout (names_at d) m x c.line u link.line fair_u k a h.its.is (h.away p) new alone refl h.its.octets heard)

    pumped_so : Leads (HasPumped conf server p (with_at i0 (Some k) (names_at d)) m1 x lined (record u { ticket = u.ticket + 1 })) (takes_on for_one for_several p c.settings (Single a.request) c.line u)
    pumped_so = queues_so conf server p c.settings link.timeout (names_at d) m x c.line u link.line fair_u k a h.its.is (h.away p) new alone refl h.its.octets heard

    -- what it leaves
    module _ (l : SingleLine) (w : View) (pumped : HasPumped conf server p (with_at i0 (Some k) (names_at d)) m1 x lined (record u { ticket = u.ticket + 1 }) l w) where
      abbrev n : Multi
      n = pumped.taken.made.state

      abbrev c2 : Link Request
      c2 = record c { line = l }

      line2 : IsLineAt conf p (names_at (desk_of s2)) l n pumped.taken.conn (dues w) w.ticket
      line2 = subst (λ names. IsLineAt conf p names l n pumped.taken.conn (dues w) w.ticket) names_so pumped.taken.line

      left : CallLeft conf p pumped.taken.posts frames s2 c m1 n (record v { board = []; request = k; ticket = v.ticket + 1 }) w c2
      left = record {
        aside = pumped.taken.beside.aside;
        going = pumped.taken.beside.going;
        conns = pumped.taken.beside.conns;
        there = λ i j b named at there. elim (pumped.taken.seats i (is_at conf p (names_at (desk_of s2)) lined m1 x (dues v) (v.ticket + 1) lined_is i j b named at there)) [
          | inl f ↦ inl (there_at conf p (names_at (desk_of s2)) l n pumped.taken.conn (dues w) w.ticket line2 i j named f)
          | inr f ↦ inr f
        ];
        failing = subst (λ names. AreFailing names n.asks pumped.taken.posts) names_so pumped.taken.failing;
        timed = pumped.taken.timed;
        opening = pumped.taken.beside.opening;
        calm = pumped.taken.beside.calm;
        new = inl (
          is_open conf (dues w) l.idle_time l.stage (pumped.taken.conn).mode line2.fits.stage,
          pumped.taken.conn,
          record {
            place = link.place;
            timeout = link.timeout;
            line = line2;
            settled = pumped.settled;
            keeps = subst (Keeps c.octets (frames p)) (sym pumped.taken.got) link.keeps;
          },
        );
      }

      quiet_left : NoneHeard m1 → NoneHeard n
      quiet_left q r conn at = each_number (λ r. (conn : Conn) → n.conns r ≡ Some conn → conn.heard ≡ false) p
          (λ conn at. ap (λ (x : Conn). x.heard) (same_conn (n.conns p) conn pumped.taken.conn at pumped.taken.line.conn) ∙ (pumped.taken.heard ∙ heard))
          (λ r ne conn at. q r conn (sym (pumped.taken.beside.conns r ne) ∙ at)) r conn at
        where
          same_conn : (o : Option Conn) (a b : Conn) → o ≡ Some a → o ≡ Some b → a ≡ b
          same_conn o a b e f = let g : Some a ≡ Some b = sym e ∙ f in cc

      returned : Leads (Went conf server frames z (desk_of s2) m1 v) (returns (one_stream for_one) p (taken (one_stream for_one) p c s2) v (c2, w))
      returned = returns_so conf server p pumped.taken.posts frames frames z s2 c m1 n v w k (v.ticket + 1) c2 refl (λ q ne. refl) tables1 links1 st.server.watched order1 st.fair is left
          m1 v.outs pumped.taken.made refl pumped.taken.runs pumped.taken.nothing pumped.taken.outs (pumped.taken.at_place ∙ sym pumped.taken.place) pumped.taken.more (up v.ticket) quiet_left pumped.taken.put

    -- the move by which it joins comes before
    joined : (r : Server) (w : View) → Went conf server frames z (desk_of s2) m1 v r w → Went conf server frames z d m v r w
    joined r w b = record {
      made = then_act (made_by v.place Nothing m1) b.made;
      runs = Runs_on v.place m Nothing m1 b.made (Joins k a p x h.its.is h.phase link.line.conn) b.runs;
      posts = b.posts;
      outs = b.outs;
      place = b.place;
      board = b.board;
      more = b.more;
      stands = b.stands;
      on = b.on;
      owned = b.owned;
      others = b.others;
      named = λ u. b.named u ∙ numbers_so u;
      quiet = b.quiet;
    }

    pub holds_so : Leads (Went conf server frames z d m v) (holds (one_stream for_one) t job p c (taken (one_stream for_one) p c s) v)
    holds_so = leads_as (Went conf server frames z (desk_of s2) m1 v) (Went conf server frames z d m v) (holds (one_stream for_one) t job p c (taken (one_stream for_one) p c s) v)
        (by (takes_on for_one for_several p c.settings (Single a.request) c.line u) refl pumped_so) joined
      where
        same_call : takes_on for_one for_several p c.settings (Single a.request) c.line u ≡ takes_on for_one for_several c.place c.settings (Single job.request) c.line u
        same_call = ap₂ (λ q r. takes_on for_one for_several q c.settings (Single r) c.line u) (sym link.place) (sym h.its.request)

        by : (o : Option (SingleLine × View)) → takes_on for_one for_several p c.settings (Single a.request) c.line u ≡ o → Leads (HasPumped conf server p (with_at i0 (Some k) (names_at d)) m1 x lined (record u { ticket = u.ticket + 1 })) o
            → Leads (Went conf server frames z (desk_of s2) m1 v) (holds (one_stream for_one) t job p c (taken (one_stream for_one) p c s) v)
        by None e l = subst (λ (o : Option (SingleLine × View)). Leads (Went conf server frames z (desk_of s2) m1 v) (option_and_then (returns (one_stream for_one) p (taken (one_stream for_one) p c s2) v) (option_and_then (λ y. Some (record c { line = y.0 }, y.1)) o))) (sym e ∙ same_call) tt
        by (Some y) e l = subst (λ (o : Option (SingleLine × View)). Leads (Went conf server frames z (desk_of s2) m1 v) (option_and_then (returns (one_stream for_one) p (taken (one_stream for_one) p c s2) v) (option_and_then (λ y. Some (record c { line = y.0 }, y.1)) o))) (sym e ∙ same_call) (returned y.0 y.1 l)

  full : with_room (one_stream for_one) s.connections ≡ None → (p : ℕ) (x : Conn) → m.conns p ≡ Some x → IsFull x
  full none p x at = by (st.server.links p)
    where
      by : LinkFits conf d m frames (dues v) v.ticket p → IsFull x
      by (IsNone b conns away) = absurd (let q : None ≡ Some x = sym conns ∙ at in cc)
      by (IsSome l b is link) = subst IsFull (let q : Some b ≡ Some x = sym link.line.conn ∙ at in let e : b ≡ x = cc in e) (full_line conf p (names_at d) l.line m b (dues v) v.ticket link.line (room_full s.connections none p l is))

  pub hands_so : Leads (Went conf server frames z d m v) (hands (one_stream for_one) server t job s v)
  hands_so = by (with_room (one_stream for_one) s.connections) refl
    where
      by : (o : Option (ℕ × Link Request)) → with_room (one_stream for_one) s.connections ≡ o → Leads (Went conf server frames z d m v) (hands_at (one_stream for_one) server t job (without_found (one_stream for_one) o s) v o)
      by None e = goes_on_so conf server frames t job todo [] s m v st below once (full e)
      by (Some q) e = holds_so q.0 q.1 (room_found s.connections q e)
