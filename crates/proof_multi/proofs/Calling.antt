-- A call of one connection is over: what it leaves of the tables.
use Rattle.std.proofs.Common.{◌≡◌, ℕ, ◌<◌, ◌≤◌, ◌⊎◌, inl, inr, Bool, true, false, List, [], ◌∷◌, ◌++◌, Option, Some, None, refl, sym, ap, subst, ◌∙◌, arith, le_trans, lt_of_lt_of_le}
use Rattle.std.specs.Prelude.{if◌then◌else◌}
use Rattle.client_request.specs.Numbered.{puts, frees, entry_at}
use Rattle.client_request.specs.Request.{Request}
use Rattle.client_request.specs.Requests.{for_one}
use Rattle.client_request.specs.View.{View}
use Rattle.client_request.specs.declared.board.Posted.{Posted}
use Rattle.client_request.specs.declared.event.Out.{Out}
use Rattle.client_multi.specs.Links.{Link, one_stream}
use Rattle.client_multi.specs.MultiStream.{keeps, taken, with_connection, taken_back, watched, unwatched}
use Rattle.client_multi.specs.declared.multi_stream.job.Job.{Job}
use Rattle.client_multi.specs.declared.multi_stream.job.Stage.{Stage}
use Rattle.client_multi.specs.declared.multi_stream.job.Stage.TheVariants.{Resting}
use Rattle.client_stream.specs.Plain.{has_ended, timer_at}
use Rattle.client_stream.specs.declared.line.LineStage.{LineStage}
use Rattle.client_stream.specs.declared.line.LineStage.TheVariants as at
use Rattle.right_trace.specs.Messages.{Octets}
use Rattle.proof_right.specs.machine.Part.{Act}
use Rattle.proof_right.specs.machine.Streams.{Phase, Asker, Conn, Multi, moved}
use Rattle.proof_parts.specs.Connections.{timer_of, dues, IsTimed, IsPostedTo}
use Rattle.proof_parts.specs.Lines.{Sorted}
use Rattle.proof_parts.specs.Octets.{IsLinkAt}
use Rattle.proof_parts.specs.Runs.{Runs, AreFailing}
use Rattle.proof_parts.specs.Seats.{IsAway}
use Rattle.proof_parts.specs.Sights.{sight, IsFair}
use Rattle.proof_parts.proofs.GoingOn.{none_next}
use Rattle.proof_parts.proofs.Keys.{with_here, with_there, each_number}
use Rattle.proof_parts.proofs.Tables.{at_frees, sorted_puts, sorted_frees, rises_below, present_below}
use Rattle.proof_multi.specs.Servers.{Desk, Server, desk_of, names_at, UnderWay, IsThere, StageFits, AtWaiting, AtResting, AtHeld, HasFailed, IsToHand, LinkFits, IsNone, IsSome, IsBroken, AreTables, IsServer, AreOrderly, NoneHeard, Owns}
use Rattle.proof_multi.proofs.Going.{Went}
use Rattle.proof_multi.proofs.Hands.{link_due, line_due, same_link, puts_here, puts_there}
use Rattle.proof_multi.proofs.Placing.{PlaceChange, kept_place, placed}
use Rattle.right_trace.specs.Trace.{Conf}

-- the timer of a request is set
pub timer_due : (conf : Conf) (y : UnderWay) (d : Desk) (m : Multi) (f : ℕ → Option ℕ) (i t : ℕ) → AreTables conf y d m f → d.timers i ≡ Some t → (due : ℕ) × (f i ≡ Some due)
timer_due conf y d m f i t s is =
    let o = s.timers i t is in
    let j = s.jobs t o.0 o.1 in
    elim o.2 [ inl e ↦ (_, ap f (sym e) ∙ j.over) | inr e ↦ resting (o.0).stage j.ask.phase e j.stage ]
  where
    resting : (at : Stage) (phase : Phase) → at ≡ Resting i → StageFits y d f t at phase → (due : ℕ) × (f i ≡ Some due)
    resting at phase e (AtWaiting a b l) = absurd (let z = sym a ∙ e in cc)
    resting at phase e (AtResting k until a b own h) = (until, ap f (let z : Resting k ≡ Resting i = sym a ∙ e in let q : k ≡ i = cc in sym q) ∙ h)
    resting at phase e (AtHeld p k a b own) = absurd (let z = sym a ∙ e in cc)
    resting at phase e (HasFailed p k a b own h) = absurd (let z = sym a ∙ e in cc)
    resting at phase e (IsToHand l w h) = absurd (let z = sym w ∙ e in cc)

-- each timer that the server owns is set
pub owned_set : (conf : Conf) (y : UnderWay) (d : Desk) (m : Multi) (frames : ℕ → List Octets) (f : ℕ → Option ℕ) (ticket : ℕ) → IsServer conf y d m frames f ticket → (i : ℕ) → Owns d i → (due : ℕ) × (f i ≡ Some due)
owned_set conf y d m frames f ticket s i (inl o) = timer_due conf y d m f i o.0 s.tables o.1
owned_set conf y d m frames f ticket s i (inr o) = link_due conf d m frames f ticket o.0 o.1 i (s.links o.0) o.2 o.3

pub same_timer : (st : LineStage) → timer_at st ≡ timer_of st
same_timer at.New = refl
same_timer (at.Active timer since) = refl
same_timer (at.Idle timer) = refl
same_timer at.Ended = refl

pub ended_timer : (st : LineStage) → has_ended st ≡ true → timer_of st ≡ None
ended_timer at.New e = absurd (cc)
ended_timer (at.Active timer since) e = absurd (cc)
ended_timer (at.Idle timer) e = absurd (cc)
ended_timer at.Ended e = refl

-- of those whose results are errors, each is to back off
pub all_fail : (names : ℕ → Option ℕ) (n : Multi) (posts : List Posted) (i k : ℕ) → AreFailing names n.asks posts → IsPostedTo i posts → names i ≡ Some k → IsBroken k n
all_fail names n [] i k f post named = absurd post
all_fail names n (x ∷ xs) i k f (inr post) named = all_fail names n xs i k f.2 post named
all_fail names n (x ∷ xs) i k f (inl e) named =
    let b = f.1 in
    let same : Some b.0 ≡ Some k = sym b.2 ∙ (ap names e ∙ named) in
    let same_number : b.0 ≡ k = cc in
    (b.1, ap n.asks (sym same_number) ∙ b.3, b.4)

-- What a call of the connection l at p leaves of it, c, and of the machine, n: u is the view that it saw, w the one that it left.
pub record CallLeft (conf : Conf) (p : ℕ) (posts : List Posted) (fs : ℕ → List Octets) (s : Server) (l : Link Request) (m n : Multi) (u w : View) (c : Link Request) : Type 0 where
  pub aside : (k : ℕ) → IsAway p (m.asks k) → n.asks k ≡ m.asks k
  pub going : (k : ℕ) (a : Asker) → m.asks k ≡ Some a → (phase : Phase) × (n.asks k ≡ Some (moved a phase))
  pub conns : (q : ℕ) → (p ≡ q → ⊥) → n.conns q ≡ m.conns q
  pub there : (i k : ℕ) (a : Asker) → names_at (desk_of s) i ≡ Some k → m.asks k ≡ Some a → IsThere p a.phase → ((b : Asker) × (n.asks k ≡ Some b) × IsThere p b.phase) ⊎ IsPostedTo i posts
  pub failing : AreFailing (names_at (desk_of s)) n.asks posts
  pub timed : IsTimed l.line.stage c.line.stage u w
  pub opening : n.opening ≡ m.opening
  pub calm : n.calm ≡ m.calm
  pub new : ((has_ended c.line.stage ≡ false) × (x : Conn) × IsLinkAt conf p (names_at (desk_of s)) c n x (fs p) (dues w) w.ticket) ⊎ ((has_ended c.line.stage ≡ true) × (n.conns p ≡ None) × ((k : ℕ) → IsAway p (n.asks k)))

module _ (conf : Conf) (server p : ℕ) (posts : List Posted) (frames fs : ℕ → List Octets) (y : UnderWay) (s : Server) (l : Link Request) (m n : Multi) (v w : View) (rq tk : ℕ) (c : Link Request)
    (none_failed : y.failed ≡ []) (same_frames : (q : ℕ) → (p ≡ q → ⊥) → fs q ≡ frames q)
    (tables : AreTables conf y (desk_of s) m (dues v))
    (links : (q : ℕ) → (p ≡ q → ⊥) → LinkFits conf (desk_of s) m frames (dues v) tk q)
    (watched_now : (q : ℕ) (k : Link Request) (i : ℕ) → (desk_of s).links q ≡ Some k → timer_of k.line.stage ≡ Some i → ((desk_of s).watches i ≡ Some q) × ((desk_of s).timers i ≡ None))
    (order : AreOrderly s (record (sight v) { ticket = tk })) (fair : IsFair v)
    (is : (desk_of s).links p ≡ Some l) (x : CallLeft conf p posts fs s l m n (record v { board = []; request = rq; ticket = tk }) w c) where
  abbrev z : UnderWay
  z = record { todo = y.todo; failed = posts }

  -- the timer of another connection is another
  other_timer : (q : ℕ) (k : Link Request) (i : ℕ) → (p ≡ q → ⊥) → entry_at q s.connections ≡ Some k → timer_of k.line.stage ≡ Some i → timer_of l.line.stage ≡ Some i → ⊥
  other_timer q k i ne at own mine =
      let a = watched_now q k i at own in
      let b = watched_now p l i is mine in
      let e : Some p ≡ Some q = sym b.0 ∙ a.0 in
      ne (cc)

  due_stays : (i due : ℕ) → (timer_of l.line.stage ≡ Some i → ⊥) → dues v i ≡ Some due → dues w i ≡ dues v i
  due_stays i due free set = x.timed.others i due free set ∙ sym set

  job_due : (i t : ℕ) → entry_at i s.timers ≡ Some t → dues w i ≡ dues v i
  job_due i t at = let o = timer_due conf y (desk_of s) m (dues v) i t tables at in
      due_stays i o.0 (λ mine. let b = watched_now p l i is mine in let e : None ≡ Some t = sym b.1 ∙ at in cc) o.1

  link_timer : (q : ℕ) (k : Link Request) (i : ℕ) → (p ≡ q → ⊥) → entry_at q s.connections ≡ Some k → timer_of k.line.stage ≡ Some i → dues w i ≡ dues v i
  link_timer q k i ne at own = let o = link_due conf (desk_of s) m frames (dues v) tk q k i (links q ne) at own in due_stays i o.0 (other_timer q k i ne at own) o.1

  -- for tables of connections and watches that it may be left with
  module _ (conns : List (ℕ × Link Request)) (watches : List (ℕ × ℕ)) (beside : (q : ℕ) → (p ≡ q → ⊥) → entry_at q conns ≡ entry_at q s.connections)
      (here : LinkFits conf (record (desk_of s) { links = λ q. entry_at q conns; watches = λ i. entry_at i watches }) n fs (dues w) w.ticket p)
      (own_here : (k : Link Request) (i : ℕ) → entry_at p conns ≡ Some k → timer_of k.line.stage ≡ Some i → timer_of c.line.stage ≡ Some i)
      (watched_here : (i : ℕ) → timer_of c.line.stage ≡ Some i → entry_at i watches ≡ Some p)
      (watched_there : (i : ℕ) → (timer_of l.line.stage ≡ Some i → ⊥) → (timer_of c.line.stage ≡ Some i → ⊥) → entry_at i watches ≡ entry_at i s.watches)
      (sorted : Sorted 0 v.place conns) (sorted_watches : Sorted 0 w.timers.next watches) where
    abbrev to : Server
    to = record s { connections = conns; watches = watches }

    change : PlaceChange p posts y z (desk_of s) (desk_of to) m n (dues v) (dues w)
    change = record {
      todo = refl;
      before = none_failed;
      failed = refl;
      jobs = refl;
      timers = refl;
      inner = refl;
      waiting = refl;
      conns = x.conns;
      aside = x.aside;
      going = x.going;
      there = x.there;
      failing = λ i k post named. all_fail (names_at (desk_of s)) n posts i k x.failing post named;
      due = job_due;
      opening = tables.opening ∙ sym x.opening;
      calm = subst (λ b. s.calm ≤ b) (sym x.calm) tables.calm;
    }

    -- a timer of the connection is its old one, or new
    new_timer : (i : ℕ) → timer_of c.line.stage ≡ Some i → (q : ℕ) (k : Link Request) → (p ≡ q → ⊥) → entry_at q s.connections ≡ Some k → timer_of k.line.stage ≡ Some i → ⊥
    new_timer i own q k ne at theirs = elim (x.timed.owned i own) [
      | inl mine ↦ other_timer q k i ne at theirs mine
      | inr le ↦ (let o = link_due conf (desk_of s) m frames (dues v) tk q k i (links q ne) at theirs in let e : None ≡ Some o.0 = sym (none_next v i fair le) ∙ o.1 in cc)
    ]

    no_request : (i : ℕ) → timer_of c.line.stage ≡ Some i → (o : Option ℕ) → entry_at i s.timers ≡ o → entry_at i s.timers ≡ None
    no_request i own None e = e
    no_request i own (Some t) e = elim (x.timed.owned i own) [
      | inl mine ↦ (watched_now p l i is mine).1
      | inr le ↦ (let o = timer_due conf y (desk_of s) m (dues v) i t tables e in absurd (let f : None ≡ Some o.0 = sym (none_next v i fair le) ∙ o.1 in cc))
    ]

    watched_so : (q : ℕ) (k : Link Request) (i : ℕ) → entry_at q conns ≡ Some k → timer_of k.line.stage ≡ Some i → (entry_at i watches ≡ Some q) × (entry_at i s.timers ≡ None)
    watched_so q k i at own = each_number (λ q. (k : Link Request) → entry_at q conns ≡ Some k → timer_of k.line.stage ≡ Some i → (entry_at i watches ≡ Some q) × (entry_at i s.timers ≡ None)) p
        (λ k at own. (let mine = own_here k i at own in (watched_here i mine, no_request i mine (entry_at i s.timers) refl)))
        (λ q ne k at own. (let was = sym (beside q ne) ∙ at in let b = watched_now q k i was own in
        (watched_there i (other_timer q k i ne was own) (λ mine. new_timer i mine q k ne was own) ∙ b.0, b.1)))
        q k at own

    server_left : IsServer conf z (desk_of to) n fs (dues w) w.ticket
    server_left = record {
      tables = placed conf p posts y z (desk_of s) (desk_of to) m n frames (dues v) (dues w) tk w.ticket tables change;
      links = λ q. each_number (LinkFits conf (desk_of to) n fs (dues w) w.ticket) p here
          (λ q ne. kept_place conf p posts y z (desk_of s) (desk_of to) m n frames (dues v) (dues w) tk w.ticket tables change fs q ne (beside q ne) (same_frames q ne) (λ k i at own. link_timer q k i ne at own) x.timed.on.ticket (links q ne)) q;
      watched = watched_so;
    }

    order_left : AreOrderly to (sight w)
    order_left = record {
      jobs = rises_below (λ (e : ℕ × Job Request). e.0) 0 tk w.ticket s.jobs x.timed.on.ticket order.jobs;
      timers = rises_below (λ (e : ℕ × ℕ). e.0) 0 v.timers.next w.timers.next s.timers x.timed.on.timer order.timers;
      inner = rises_below (λ (e : ℕ × ℕ). e.0) 0 tk w.ticket s.inner x.timed.on.ticket order.inner;
      waiting = rises_below (λ (t : ℕ). t) 0 tk w.ticket s.waiting x.timed.on.ticket order.waiting;
      connections = rises_below (λ (e : ℕ × Link Request). e.0) 0 v.place w.place conns x.timed.on.place sorted;
      watches = sorted_watches;
      opening = λ q e. (let o = order.opening q e in (lt_of_lt_of_le o.0 x.timed.on.place, by q o.1));
    }
      where
        by : (q : ℕ) → entry_at q s.connections ≡ None → entry_at q conns ≡ None
        by q none = each_number (λ q. entry_at q s.connections ≡ None → entry_at q conns ≡ None) p
            (λ none. absurd (let e : None ≡ Some l = sym none ∙ is in cc)) (λ q ne none. beside q ne ∙ none) q none

    owned_left : (i : ℕ) → Owns (desk_of to) i → Owns (desk_of s) i ⊎ (v.timers.next ≤ i)
    owned_left i (inl o) = inl (inl o)
    owned_left i (inr o) = each_number (λ q. (k : Link Request) → entry_at q conns ≡ Some k → timer_of k.line.stage ≡ Some i → Owns (desk_of s) i ⊎ (v.timers.next ≤ i)) p
        (λ k at own. elim (x.timed.owned i (own_here k i at own)) [ inl mine ↦ inl (inr (p, l, is, mine)) | inr le ↦ inr le ])
        (λ q ne k at own. inl (inr (q, k, sym (beside q ne) ∙ at, own)))
        o.0 o.1 o.2 o.3

    abbrev left_so : (m0 : Multi) (outs0 : List Out) (made : Act Multi) → made.state ≡ n → Runs conf server v.now v.place m0 made → made.posts ≡ [] → w.outs ≡ outs0 ++ made.outs → w.place ≡ made.place → w.more ≡ v.more → v.ticket ≤ tk → (NoneHeard m0 → NoneHeard n)
        → Went conf server fs z (desk_of s) m0 (record v { outs = outs0 }) to (taken_back v w)
    left_so m0 outs0 made state runs nothing outs place more le quiet = record {
      made = made;
      runs = runs;
      posts = nothing;
      outs = outs;
      place = place;
      board = refl;
      more = more;
      stands = record { server = subst (λ n. IsServer conf z (desk_of to) n fs (dues w) w.ticket) (sym state) server_left; order = order_left; fair = record { order = x.timed.on.fair.order; words = x.timed.on.fair.words } };
      on = record { fair = record { order = x.timed.on.fair.order; words = x.timed.on.fair.words }; now = x.timed.on.now; timer = x.timed.on.timer; ticket = le_trans le x.timed.on.ticket; place = x.timed.on.place; later = x.timed.on.later };
      owned = owned_left;
      others = λ i due free set. x.timed.others i due (λ mine. free (inr (p, l, is, mine))) set;
      named = λ u. refl;
      quiet = λ q. subst NoneHeard (sym state) (quiet q);
    }

  -- Tables of watches

  dropped : (i : ℕ) (o : Option ℕ) → (o ≡ Some i → ⊥) → entry_at i (unwatched o s.watches) ≡ entry_at i s.watches
  dropped i None ne = refl
  dropped i (Some j) ne = at_frees j i 0 v.timers.next s.watches order.watches ∙ with_there j None (λ j. entry_at j s.watches) i (λ e. ne (ap Some e))

  sorted_dropped : (o : Option ℕ) → Sorted 0 v.timers.next (unwatched o s.watches)
  sorted_dropped None = order.watches
  sorted_dropped (Some j) = sorted_frees j 0 v.timers.next s.watches order.watches

  added : (i : ℕ) (o : Option ℕ) (es : List (ℕ × ℕ)) → (o ≡ Some i → ⊥) → entry_at i (watched p o es) ≡ entry_at i es
  added i None es ne = refl
  added i (Some j) es ne = puts_there j p es i (λ e. ne (ap Some e))

  added_here : (i : ℕ) (o : Option ℕ) (es : List (ℕ × ℕ)) → o ≡ Some i → entry_at i (watched p o es) ≡ Some p
  added_here i None es e = absurd (cc)
  added_here i (Some j) es e = ap (λ i. entry_at i (puts j p es)) (let s : j ≡ i = cc in sym s) ∙ puts_here j p es

  sorted_added : (o : Option ℕ) (hi : ℕ) (es : List (ℕ × ℕ)) → ((j : ℕ) → o ≡ Some j → j < hi) → Sorted 0 hi es → Sorted 0 hi (watched p o es)
  sorted_added None hi es lt r = r
  sorted_added (Some j) hi es lt r = sorted_puts j p 0 hi es (least j) (lt j refl) r
    where
      least : (n : ℕ) → 0 ≤ n
      least n = omega arith

  freed_there : (q : ℕ) → (p ≡ q → ⊥) → entry_at q (frees p s.connections) ≡ entry_at q s.connections
  freed_there q ne = at_frees p q 0 v.place s.connections order.connections ∙ with_there p None (λ j. entry_at j s.connections) q ne

  freed_here : entry_at p (frees p s.connections) ≡ None
  freed_here = at_frees p p 0 v.place s.connections order.connections ∙ with_here p None (λ j. entry_at j s.connections)

  below_next : (i due : ℕ) → dues w i ≡ Some due → i < w.timers.next
  below_next i due set = elim (either i w.timers.next) [ inl lt ↦ lt | inr le ↦ absurd (let z : None ≡ Some due = sym (none_next w i x.timed.on.fair le) ∙ set in cc) ]
    where
      either : (a b : ℕ) → (a < b) ⊎ (b ≤ a)
      either a b = grind arith

  -- it is reached from machine m0, where what was put out before is outs0
  module _ (m0 : Multi) (outs0 : List Out) (made : Act Multi) (state : made.state ≡ n) (runs : Runs conf server v.now v.place m0 made) (nothing : made.posts ≡ []) (outs : w.outs ≡ outs0 ++ made.outs) (place : w.place ≡ made.place) (more : w.more ≡ v.more) (le : v.ticket ≤ tk) (quiet : NoneHeard m0 → NoneHeard n) where
    ended_so : has_ended c.line.stage ≡ true → (x : Went conf server fs z (desk_of s) m0 (record v { outs = outs0 }) (taken (one_stream for_one) p l s) (taken_back v w)) × (x.made ≡ made)
    ended_so e = (
      left_so (frees p s.connections) (unwatched (timer_at l.line.stage) s.watches) freed_there
          (elim x.new [ inl f ↦ absurd (let z : false ≡ true = sym f.0 ∙ e in cc) | inr f ↦ IsNone freed_here f.1 f.2 ])
          (λ k i at own. absurd (let z : None ≡ Some k = sym freed_here ∙ at in cc))
          (λ i own. absurd (let z : None ≡ Some i = sym (ended_timer c.line.stage e) ∙ own in cc))
          (λ i mine other. dropped i (timer_at l.line.stage) (λ e. mine (sym (same_timer l.line.stage) ∙ e)))
          (sorted_frees p 0 v.place s.connections order.connections)
          (rises_below (λ (e : ℕ × ℕ). e.0) 0 v.timers.next w.timers.next (unwatched (timer_at l.line.stage) s.watches) x.timed.on.timer (sorted_dropped (timer_at l.line.stage)))
          m0 outs0 made state runs nothing outs place more le quiet,
      refl,
    )

    kept_so : has_ended c.line.stage ≡ false → (x : Went conf server fs z (desk_of s) m0 (record v { outs = outs0 }) (keeps (one_stream for_one) p c (taken (one_stream for_one) p l s)) (taken_back v w)) × (x.made ≡ made)
    kept_so e = (
      left_so (puts p c (frees p s.connections)) (watched p (timer_at c.line.stage) (unwatched (timer_at l.line.stage) s.watches))
          (λ q ne. puts_there p c (frees p s.connections) q ne ∙ freed_there q ne)
          (elim x.new [ inl f ↦ IsSome c f.1 (puts_here p c (frees p s.connections)) f.2 | inr f ↦ absurd (let z : true ≡ false = sym f.0 ∙ e in cc) ])
          (λ k i at own. ap (λ (l : Link Request). timer_of l.line.stage) (same_link (entry_at p (puts p c (frees p s.connections))) c k (puts_here p c (frees p s.connections)) at) ∙ own)
          (λ i own. added_here i (timer_at c.line.stage) (unwatched (timer_at l.line.stage) s.watches) (same_timer c.line.stage ∙ own))
          (λ i mine other. added i (timer_at c.line.stage) (unwatched (timer_at l.line.stage) s.watches) (λ e. other (sym (same_timer c.line.stage) ∙ e)) ∙ dropped i (timer_at l.line.stage) (λ e. mine (sym (same_timer l.line.stage) ∙ e)))
          (sorted_puts p c 0 v.place (frees p s.connections) (least p) (present_below p 0 v.place l s.connections order.connections is) (sorted_frees p 0 v.place s.connections order.connections))
          (sorted_added (timer_at c.line.stage) w.timers.next (unwatched (timer_at l.line.stage) s.watches) (λ j own. small j (sym (same_timer c.line.stage) ∙ own))
          (rises_below (λ (e : ℕ × ℕ). e.0) 0 v.timers.next w.timers.next (unwatched (timer_at l.line.stage) s.watches) x.timed.on.timer (sorted_dropped (timer_at l.line.stage))))
          m0 outs0 made state runs nothing outs place more le quiet,
      refl,
    )
      where
        least : (n : ℕ) → 0 ≤ n
        least n = omega arith

        small : (j : ℕ) → timer_of c.line.stage ≡ Some j → j < w.timers.next
        small j own = elim x.new [
          | inl f ↦ (let o = line_due conf (dues w) c.line.idle_time c.line.stage (f.1).mode j (f.2).line.fits.stage own in below_next j o.0 o.1)
          | inr f ↦ absurd (let z : true ≡ false = sym f.0 ∙ e in cc)
        ]

    pub call_so : (x : Went conf server fs z (desk_of s) m0 (record v { outs = outs0 }) (with_connection (one_stream for_one) p c (taken (one_stream for_one) p l s)) (taken_back v w)) × (x.made ≡ made)
    call_so = by (has_ended c.line.stage) refl
      where
        by : (b : Bool) → has_ended c.line.stage ≡ b → (x : Went conf server fs z (desk_of s) m0 (record v { outs = outs0 }) (if b then taken (one_stream for_one) p l s else keeps (one_stream for_one) p c (taken (one_stream for_one) p l s)) (taken_back v w)) × (x.made ≡ made)
        by true e = ended_so e
        by false e = kept_so e
