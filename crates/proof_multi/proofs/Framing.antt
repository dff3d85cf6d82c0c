-- A frame comes to a connection: what it leaves of the whole.
use Rattle.std.proofs.Common.{◌≡◌, ◌≢◌, ℕ, ◌+◌, ◌≤◌, ◌⊎◌, inl, inr, Bool, true, false, List, [], ◌∷◌, ◌++◌, Option, Some, None, refl, sym, ap, subst, ◌∙◌, arith, le_refl, append-nil, append_assoc}
use Rattle.std.specs.Prelude.{if◌then◌else◌, option_and_then, option_map, Result, Ok, Err}
use Rattle.client_request.specs.Numbered.{frees, entry_at}
use Rattle.client_request.specs.Request.{Request}
use Rattle.client_request.specs.Requests.{for_one}
use Rattle.client_request.specs.View.{View, answers, drops_timer}
use Rattle.client_request.specs.declared.board.Posted.{Posted}
use Rattle.client_request.specs.declared.error.Error.{Error}
use Rattle.client_request.specs.declared.error.Error.TheVariants as errors
use Rattle.client_request.specs.declared.event.Out.TheVariants.{Close}
use Rattle.client_stream.specs.Plain.{Asked, has_ended, ended}
use Rattle.client_stream.specs.declared.line.LineStage.{LineStage}
use Rattle.client_stream.specs.declared.line.LineStage.TheVariants as at
use Rattle.client_multi.specs.Links.{Link, one_stream}
use Rattle.client_multi.specs.MultiStream.{returns, taken, taken_back, with_connection, keeps, lent, collects, gets_at, gets_part, is_result}
use Rattle.client_multi.specs.declared.multi_stream.job.Job.{Job}
use Rattle.client_multi.specs.declared.multi_stream.job.Stage.TheVariants.{Waiting, Resting, Held}
use Rattle.right_trace.specs.Messages.{Octets, id_in, answers as is_answer}
use Rattle.right_trace.specs.Time.{response_timeout, stream_timeout}
use Rattle.proof_right.specs.machine.Part.{Act}
use Rattle.proof_right.specs.machine.Served.{place_after, outs_of, posts_of}
use Rattle.proof_right.specs.machine.Streams as multi
use Rattle.proof_right.specs.machine.Streams.{Phase, Lined, Holding, Idle, Asker, Conn, Multi, Nothing, Puts, Gives as GivesIt, RestsTooLong, TakesFrame, IsBad, IsUnknown, IsLate, IsResult, IsDropped, end_at, every, broken_at, drop}
use Rattle.right_trace.specs.Updates.{with_at}
use Rattle.proof_parts.specs.Chains.{Gives, still, part_of}
use Rattle.proof_parts.specs.Connections.{timer_of, dues, IsTimed, HasEnded, Gave, GaveNothing, GaveResult, FrameLeft, StaysOpen, ClosesAsBad, ClosesBehind, HasHeard}
use Rattle.proof_parts.specs.Lines.{IsLineAt}
use Rattle.proof_parts.specs.PartTie.{Leads, GoesOn}
use Rattle.proof_parts.specs.Reading.{Keeps}
use Rattle.proof_parts.specs.Runs.{Runs, Rests, Runs_on}
use Rattle.proof_parts.specs.Seats.{IsAway}
use Rattle.proof_parts.specs.Sights.{sight, IsFair}
use Rattle.proof_parts.proofs.Calling.{is_open}
use Rattle.proof_parts.proofs.GoingOn.{goes_then, goes_without, fair_without, dues_without, none_next}
use Rattle.proof_parts.proofs.Keys.{with_here, with_there, was_there, each_number}
use Rattle.proof_parts.proofs.Running.{runs_one}
use Rattle.proof_parts.proofs.Tables.{at_frees, sorted_frees}
use Rattle.proof_multi.specs.Servers.{Desk, Server, desk_of, numbers, names_at, nothing_under_way, IsThere, under, JobFits, LinkFits, AreTables, AreOrderly, NoneHeard, Owns, Stands}
use Rattle.proof_multi.proofs.Calling.{CallLeft, call_so}
use Rattle.proof_multi.proofs.Changing.{Change, kept_link, changed, name_stays, apart_now}
use Rattle.proof_multi.proofs.Desks.{away_none, away_so, one_place, line_stays, names_apart, name_of, not_both}
use Rattle.proof_multi.proofs.Going.{Went, leads_as}
use Rattle.proof_multi.proofs.Hands.{same_job}
use Rattle.proof_multi.proofs.Retimed.{server_retimed, order_up}
use Rattle.proof_multi.proofs.Serving.{gives_none}
use Rattle.proof_multi.proofs.Stepping.{AtWork, ended_call, broken_gone, none_left, quiet_end}
use Rattle.right_trace.specs.Trace.{Conf}

-- What a frame f at p leaves of the whole: it is taken by the machine, moves may follow, and a result may be given.
pub record FrameDone (conf : Conf) (server p : ℕ) (f : Octets) (fs : ℕ → List Octets) (d : Desk) (m : Multi) (v : View) (b e : Bool) (t : Server) (w : View) : Type 0 where
  pub act : multi.Act
  pub next : Multi
  pub takes : TakesFrame v.now p f m act next
  pub stays : place_after act v.place ≡ v.place
  pub made : Act Multi
  pub runs : Runs conf server v.now v.place next made
  pub outs : w.outs ≡ v.outs ++ (outs_of act ++ made.outs)
  pub place : w.place ≡ made.place
  pub board : List Posted
  pub put : w.board ≡ v.board ++ board
  pub gives : Gives (numbers d) board (posts_of act ++ made.posts) (numbers (desk_of t))
  pub more : w.more ≡ b
  pub stands : Stands conf nothing_under_way (desk_of t) t made.state fs w
  pub on : GoesOn v w
  pub owned : (i : ℕ) → Owns (desk_of t) i → Owns d i ⊎ (v.timers.next ≤ i)
  pub others : (i due : ℕ) → (Owns d i → ⊥) → dues v i ≡ Some due → dues w i ≡ Some due
  pub closed : e ≡ true → (made.state).conns p ≡ None

-- where no connection is, moves open none
pub runs_none : (conf : Conf) (s n place : ℕ) (m : Multi) (made : Act Multi) (p : ℕ) → Runs conf s n place m made → m.conns p ≡ None → (made.state).conns p ≡ None
runs_none conf s n _ _ _ p (Rests place m) none = none
runs_none conf s n _ _ _ p (Runs_on place m x k e move rest) none = runs_none conf s n (place_after x place) k e p rest (by x k move)
  where
    other : (q : ℕ) (y : Conn) → m.conns q ≡ Some y → q ≡ p → ⊥
    other q y at e = let z : None ≡ Some y = sym none ∙ (ap m.conns (sym e) ∙ at) in cc

    gone : (q : ℕ) → with_at q None m.conns p ≡ None
    gone q = each_number (λ r. m.conns r ≡ None → with_at q None m.conns r ≡ None) q (λ e. with_here q None m.conns) (λ r ne e. with_there q None m.conns r ne ∙ e) p none

    by : (x : multi.Act) (k : Multi) → multi.Moves conf s n place m x k → k.conns p ≡ None
    by _ _ (multi.Joins j a q y is ph at) = none
    by _ _ (multi.Expects j a q is ph at) = none
    by _ _ (multi.Opens j a is ph op full) = none
    by _ _ (multi.Meets j a until is ph c l b) = none
    by _ _ (multi.BacksOff j a until is ph l b) = none
    by _ _ (multi.Writes j a q y id o is ph at left hd free carries pos) = with_there q (Some (multi.written_on id j n o y)) m.conns p (other q y at) ∙ none
    by _ _ (multi.CannotWrite j a q y is ph at left valid) = with_there q (Some (multi.taken_on n y)) m.conns p (other q y at) ∙ none
    by _ _ (multi.FindsNoId j a q y is ph at left full) = none
    by _ _ (multi.GoesOn j a until is ph le) = none
    by _ _ (multi.TimesOut j a is le) = none
    by _ _ (multi.ReadsNothing q y since at md lt) = gone q
    by _ _ (multi.RestsTooLong q y since at md le lined) = gone q

-- a result is a message, or the one error after which the connection goes on
result_so : (r : Request) (id : ℕ) (f : Octets) → is_result (part_of (multi.result_of r id f)) ≡ true
result_so r id f = by (is_answer r id f)
  where
    by : (b : Bool) → is_result (part_of (if b then Ok f else Err errors.WrongReplyForQuery)) ≡ true
    by true = refl
    by false = refl

result_is : (n p : ℕ) (f : Octets) (m : Multi) (act : multi.Act) (next : Multi) (k : ℕ) (r : Result Octets Error) → TakesFrame n p f m act next → act ≡ GivesIt k r → is_result (part_of r) ≡ true
result_is n p f m _ _ k r (IsBad x c b) e = absurd (let z : Puts (Close p) ≡ GivesIt k r = e in cc)
result_is n p f m _ _ k r (IsUnknown x c b i) e = absurd (let z : Nothing ≡ GivesIt k r = e in cc)
result_is n p f m _ _ k r (IsLate x y mode c b i ab l) e = absurd (let z : Nothing ≡ GivesIt k r = e in cc)
result_is n p f m _ _ k r (IsResult x y mode a c b i is ph l) e = ap (λ (r : Result Octets Error). is_result (part_of r)) (let z : GivesIt y.request (multi.result_of a.request (id_in f) f) ≡ GivesIt k r = e in let q : multi.result_of a.request (id_in f) f ≡ r = cc in sym q) ∙ result_so a.request (id_in f) f
result_is n p f m _ _ k r (IsDropped c) e = absurd (let z : Nothing ≡ GivesIt k r = e in cc)

-- the request that has its result was there
result_there : (n p : ℕ) (f : Octets) (m : Multi) (act : multi.Act) (next : Multi) (k : ℕ) (r : Result Octets Error) → TakesFrame n p f m act next → act ≡ GivesIt k r → (a : Asker) × (m.asks k ≡ Some a) × IsThere p a.phase
result_there n p f m _ _ k r (IsBad x c b) e = absurd (let z : Puts (Close p) ≡ GivesIt k r = e in cc)
result_there n p f m _ _ k r (IsUnknown x c b i) e = absurd (let z : Nothing ≡ GivesIt k r = e in cc)
result_there n p f m _ _ k r (IsLate x y mode c b i ab l) e = absurd (let z : Nothing ≡ GivesIt k r = e in cc)
result_there n p f m _ _ k r (IsResult x y mode a c b i is ph l) e = (a, ap m.asks (let z : GivesIt y.request (multi.result_of a.request (id_in f) f) ≡ GivesIt k r = e in let q : y.request ≡ k = cc in sym q) ∙ is, subst (IsThere p) (sym ph) refl)
result_there n p f m _ _ k r (IsDropped c) e = absurd (let z : Nothing ≡ GivesIt k r = e in cc)

-- the same for views that differ in what is said of more frames
timed_more : (own to : LineStage) (v u : View) (a b : Bool) → IsTimed own to v u → IsTimed own to (record v { more = a }) (record u { more = b })
timed_more own to v u a b t = record { on = record { fair = record { order = t.on.fair.order; words = t.on.fair.words }; now = t.on.now; timer = t.on.timer; ticket = t.on.ticket; place = t.on.place; later = t.on.later }; owned = t.owned; others = t.others }

module _ (conf : Conf) (server p : ℕ) (l : Link Request) (x : Conn) (s : Server) (m : Multi) (frames fs : ℕ → List Octets) (same_frames : (q : ℕ) → (p ≡ q → ⊥) → fs q ≡ frames q) (v : View) (a : AtWork conf p l x s m frames v (dues v))
    (f : Octets) (c : Link Request) (u : View) (b : Bool) (heard : HasHeard conf p (names_at (desk_of s)) m x l.line (lent v) f c.line u)
    (place : c.place ≡ p) (timeout : c.settings.response_timeout ≡ response_timeout conf) (keeps_on : has_ended c.line.stage ≡ false → Keeps c.octets (fs p) x.got) where
  abbrev d : Desk
  d = desk_of s

  abbrev w : View
  w = record u { more = b }

  abbrev vb : View
  vb = record v { more = b }

  abbrev T : AreTables conf nothing_under_way d m (dues v)
  T = a.tables

  fair_b : IsFair vb
  fair_b = record { order = a.fair.order; words = a.fair.words }

  timed_b : IsTimed l.line.stage c.line.stage (lent vb) w
  timed_b = timed_more l.line.stage c.line.stage (lent v) u b b heard.timed

  -- What the call leaves beside tables s2 and machine m2, of which `next` differs at the place alone.
  record Turned (s2 : Server) (m2 next : Multi) : Type 0 where
    n : Multi
    left : CallLeft conf p [] fs s2 l m2 n (record vb { board = []; request = vb.request; ticket = vb.ticket }) w c
    made : Act Multi
    state : made.state ≡ n
    runs : Runs conf server v.now v.place next made
    nothing : made.posts ≡ []
    outs : u.outs ≡ v.outs ++ made.outs
    at_place : made.place ≡ v.place
    quiet : NoneHeard next → NoneHeard n
    closed : has_ended c.line.stage ≡ true → n.conns p ≡ None

  module _ (s2 : Server) (m2 next : Multi) (asks : next.asks ≡ m2.asks) (conns : (q : ℕ) → (p ≡ q → ⊥) → next.conns q ≡ m2.conns q) (opening : next.opening ≡ m2.opening) (calm : next.calm ≡ m2.calm)
      (named : (i j : ℕ) (e : Asker) → names_at d i ≡ Some j → next.asks j ≡ Some e → names_at (desk_of s2) i ≡ Some j) (apart : (i j k : ℕ) → names_at (desk_of s2) i ≡ Some k → names_at (desk_of s2) j ≡ Some k → i ≡ j) where
    -- it stays open
    turned_open : (y : Conn) → IsLineAt conf p (names_at d) c.line next y (dues u) u.ticket → (c.line.writing ≡ None → c.line.queue ≡ []) → y.got ≡ x.got → u.outs ≡ v.outs → Turned s2 m2 next
    turned_open y line settled got outs = record {
      n = next;
      left = record {
        aside = λ k away. ap (λ (g : ℕ → Option Asker). g k) asks;
        going = λ k e at. (e.phase, ap (λ (g : ℕ → Option Asker). g k) asks ∙ at);
        conns = conns;
        there = λ i k e nm at th. inl (e, ap (λ (g : ℕ → Option Asker). g k) asks ∙ at, th);
        failing = tt;
        timed = timed_b;
        opening = opening;
        calm = calm;
        new = inl (
          live,
          y,
          record {
            place = place;
            timeout = timeout;
            line = line_stays conf p c.line (names_at d) (names_at (desk_of s2)) next next y (dues u) (dues u) u.ticket u.ticket line refl (λ k. inl refl) (λ i j e nm at th. named i j e nm at) apart (λ i own. refl) (le_refl u.ticket);
            settled = settled;
            keeps = subst (Keeps c.octets (fs p)) (sym got) (keeps_on live);
          },
        );
      };
      made = still v.place next;
      state = refl;
      runs = Rests v.place next;
      nothing = refl;
      outs = outs ∙ sym (append-nil v.outs);
      at_place = refl;
      quiet = λ q. q;
      closed = λ e. absurd (let z : false ≡ true = sym live ∙ e in cc);
    }
      where
        live : has_ended c.line.stage ≡ false
        live = is_open conf (dues u) c.line.idle_time c.line.stage y.mode line.fits.stage

    -- it is closed behind the frame, since nothing is waited for
    turned_closed : (y : Conn) → next.conns p ≡ Some y → y.mode ≡ Idle v.now → y.idle ≡ 0 → ((k : ℕ) (e : Asker) → next.asks k ≡ Some e → e.phase ≢ Lined p) → ((k : ℕ) (e : Asker) (id : ℕ) → next.asks k ≡ Some e → e.phase ≢ Holding p id) → c.line.stage ≡ at.Ended → u.outs ≡ v.outs ++ Close p ∷ [] → Turned s2 m2 next
    turned_closed y conn mode idle none_lined none_held is_ended outs = record {
      n = end_at p next;
      left = record {
        aside = λ k away. ap (λ (g : ℕ → Option Asker). every (broken_at p) (g k)) asks ∙ broken_gone p (m2.asks k) away;
        going = λ k e at. (broken_at p e.phase, ap (λ (g : ℕ → Option Asker). every (broken_at p) (g k)) asks ∙ ap (every (broken_at p)) at);
        conns = λ q ne. with_there p None next.conns q ne ∙ conns q ne;
        there = λ i k e nm at th. absurd (not_both p (next.asks k) e (ap (λ (g : ℕ → Option Asker). g k) asks ∙ at) (nobody k) th);
        failing = tt;
        timed = timed_b;
        opening = opening;
        calm = calm;
        new = inr (ap has_ended is_ended, with_here p None next.conns, λ k. none_left p (next.asks k));
      };
      made = _;
      state = refl;
      runs = runs_one conf server v.now v.place next (Puts (Close p)) (end_at p next) (RestsTooLong p y v.now conn mode (at_once v.now y.idle idle) (λ k e at ph. absurd (none_lined k e at ph)));
      nothing = refl;
      outs = outs;
      at_place = refl;
      quiet = quiet_end p next;
      closed = λ e. with_here p None next.conns;
    }
      where
        nobody : (k : ℕ) → IsAway p (next.asks k)
        nobody k = record { lined = λ e at ph. none_lined k e at ph; holding = λ e id at ph. none_held k e id at ph }

        at_once : (n i : ℕ) → i ≡ 0 → n + i ≤ n
        at_once n i e = omega arith

  -- Nothing is given
  gave_nothing : (next : Multi) → TakesFrame v.now p f m Nothing next → next.asks ≡ m.asks → Turned s m next → u.board ≡ [] → Leads (FrameDone conf server p f fs d m v b (has_ended c.line.stage)) (returns (one_stream for_one) p (taken (one_stream for_one) p l s) v (c, w))
  gave_nothing next takes asks t board =
      let called = call_so conf server p [] frames fs nothing_under_way s l m t.n vb w vb.request vb.ticket c refl same_frames T a.links a.watched a.order fair_b a.is t.left
      next v.outs t.made t.state t.runs t.nothing t.outs (heard.at_place ∙ sym t.at_place) refl (le_refl v.ticket) t.quiet in
      let g = called.0 in
      let r : Server = with_connection (one_stream for_one) p c (taken (one_stream for_one) p l s) in
      subst (λ (ps : List Posted). Leads (FrameDone conf server p f fs d m v b (has_ended c.line.stage)) (collects ps r (taken_back v w))) (sym board) (record {
        act = Nothing;
        next = next;
        takes = takes;
        stays = refl;
        made = g.made;
        runs = g.runs;
        outs = g.outs;
        place = g.place;
        board = [];
        put = g.board ∙ sym (append-nil v.board);
        gives = gives_none (numbers d) (numbers (desk_of r)) g.made.posts g.posts g.named;
        more = g.more;
        stands = g.stands;
        on = record { fair = g.on.fair; now = g.on.now; timer = g.on.timer; ticket = g.on.ticket; place = g.on.place; later = g.on.later };
        owned = g.owned;
        others = g.others;
        closed = λ e. ap (λ (x : Act Multi). (x.state).conns p) called.1 ∙ (ap (λ (n : Multi). n.conns p) t.state ∙ t.closed e);
      })

  -- The result of request k is given, which has ticket i there
  module _ (next : Multi) (i k : ℕ) (r : Result Octets Error) (takes : TakesFrame v.now p f m (GivesIt k r) next) (named : names_at d i ≡ Some k) (asks : next.asks ≡ with_at k None m.asks) where
    found : (t : ℕ) × (job : Job Request) × (d.inner i ≡ Some t) × (d.jobs t ≡ Some job) × (job.number ≡ k)
    found = name_of d i k named

    abbrev t0 : ℕ
    t0 = found.0

    abbrev job : Job Request
    job = found.1

    abbrev s2 : Server
    s2 = record s { inner = frees i s.inner; jobs = frees t0 s.jobs; timers = frees job.end s.timers }

    abbrev m2 : Multi
    m2 = drop k m

    T0 : JobFits conf nothing_under_way d m (dues v) t0 job
    T0 = T.jobs t0 job found.3

    held : (q : ℕ) × (job.stage ≡ Held q (under i))
    held = let o = T.inner i t0 found.2 in (o.1, sym (ap (λ (j : Job Request). j.stage) (same_job (entry_at t0 s.jobs) o.0 job o.2 found.3)) ∙ o.3)

    there : (e : Asker) × (m.asks k ≡ Some e) × IsThere p e.phase
    there = result_there v.now p f m (GivesIt k r) next k r takes refl

    away : (q : ℕ) → (p ≡ q → ⊥) → IsAway q (m.asks k)
    away q ne = away_so q (m.asks k) there.0 there.1 (λ h. ne (one_place p q (there.0).phase there.2 h))

    gone : m2.asks k ≡ None
    gone = with_here k None m.asks

    no_job : (j : Job Request) → entry_at t0 (frees t0 s.jobs) ≡ Some j → ⊥
    no_job j e = let z : None ≡ Some j = sym (at_frees t0 t0 0 v.ticket s.jobs a.order.jobs ∙ with_here t0 None (λ j. entry_at j s.jobs)) ∙ e in cc

    jobs_beside : (u : ℕ) → (t0 ≡ u → ⊥) → entry_at u (frees t0 s.jobs) ≡ entry_at u s.jobs
    jobs_beside u ne = at_frees t0 u 0 v.ticket s.jobs a.order.jobs ∙ with_there t0 None (λ j. entry_at j s.jobs) u ne

    timer_back : (j u : ℕ) → entry_at j (frees job.end s.timers) ≡ Some u → (job.end ≡ j → ⊥) × (entry_at j s.timers ≡ Some u)
    timer_back j u tm = was_there job.end (λ j. entry_at j s.timers) j u (sym (at_frees job.end j 0 v.timers.next s.timers a.order.timers) ∙ tm)

    inner_back : (j u : ℕ) → entry_at j (frees i s.inner) ≡ Some u → (i ≡ j → ⊥) × (entry_at j s.inner ≡ Some u)
    inner_back j u q = was_there i (λ j. entry_at j s.inner) j u (sym (at_frees i j 0 v.ticket s.inner a.order.inner) ∙ q)

    only : (other : Job Request) → entry_at t0 s.jobs ≡ Some other → other.stage ≡ Held held.0 (under i)
    only other q = ap (λ (j : Job Request). j.stage) (same_job (entry_at t0 s.jobs) other job q found.3) ∙ held.1

    change : Change conf t0 k nothing_under_way nothing_under_way d (desk_of s2) m m2 (dues v) (dues v)
    change = record {
      jobs = jobs_beside;
      timers = λ j u ne tm. (at_frees job.end j 0 v.timers.next s.timers a.order.timers ∙ (with_there job.end None (λ j. entry_at j s.timers) j (λ e. ne (let z : Some t0 ≡ Some u = sym T0.end ∙ (ap (λ j. entry_at j s.timers) e ∙ tm) in cc)) ∙ tm), refl);
      timers_back = λ j u ne tm. (timer_back j u tm).1;
      inner = λ j u ne q. at_frees i j 0 v.ticket s.inner a.order.inner ∙ (with_there i None (λ j. entry_at j s.inner) j (λ e. ne (let z : Some t0 ≡ Some u = sym found.2 ∙ (ap (λ j. entry_at j s.inner) e ∙ q) in cc)) ∙ q);
      inner_back = λ j u ne q. (inner_back j u q).1;
      waiting = λ u ne l. l;
      waiting_back = λ u ne l. l;
      asks = λ j ne. with_there k None m.asks j ne;
      todo = λ u phase ne l. l;
      todo_back = λ u phase ne l. l;
      failed = λ j u ne q l. l;
      own = λ u j q same. T.apart t0 u job j found.3 q (found.4 ∙ sym same);
      number = λ j q. ap (λ (j : Job Request). j.number) (same_job (entry_at t0 s.jobs) j job q found.3) ∙ found.4;
      fits = λ j q. absurd (no_job j q);
      asked = λ e q. absurd (let z : None ≡ Some e = sym gone ∙ q in cc);
      own_timers = λ j tm. (let o = timer_back j t0 tm in let q = T.timers j t0 o.1 in absurd (elim q.2 [
        | inl e ↦ o.0 (sym (ap (λ (j : Job Request). j.end) (same_job (entry_at t0 s.jobs) q.0 job q.1 found.3)) ∙ e)
        | inr e ↦ (let z : Resting j ≡ Held held.0 (under i) = sym e ∙ only q.0 q.1 in cc)
      ]));
      own_inner = λ j q. (let o = inner_back j t0 q in let x = T.inner j t0 o.1 in absurd (o.0 (let z : Held held.0 (under i) ≡ Held x.1 (under j) = sym (only x.0 x.2) ∙ x.3 in let y : under i ≡ under j = cc in ap (λ (r : Asked). r.ticket) y)));
      own_waiting = λ l. (let o = T.waiting t0 l in absurd (let z : Waiting ≡ Held held.0 (under i) = sym o.3 ∙ only o.0 o.2 in cc));
      own_todo = λ phase l. absurd l;
      failing = λ j u l nm. absurd l;
      opening = T.opening;
      calm = T.calm;
    }

    tables2 : AreTables conf nothing_under_way (desk_of s2) m2 (dues v)
    tables2 = changed conf t0 k nothing_under_way nothing_under_way d (desk_of s2) m m2 frames (dues v) (dues v) v.ticket v.ticket T change

    links2 : (q : ℕ) → (p ≡ q → ⊥) → LinkFits conf (desk_of s2) m2 frames (dues v) v.ticket q
    links2 q ne = kept_link conf t0 k nothing_under_way nothing_under_way d (desk_of s2) m m2 frames (dues v) (dues v) v.ticket v.ticket T change frames q refl refl refl (away q ne) (away_none q (m2.asks k) gone) (λ l i at own. refl) (le_refl v.ticket) (a.links q ne)

    watched2 : (q : ℕ) (l : Link Request) (j : ℕ) → entry_at q s.connections ≡ Some l → timer_of l.line.stage ≡ Some j → (entry_at j s.watches ≡ Some q) × (entry_at j (frees job.end s.timers) ≡ None)
    watched2 q l j at own = (let b = a.watched q l j at own in (b.0, by (entry_at j (frees job.end s.timers)) refl b.1))
      where
        by : (o : Option ℕ) → entry_at j (frees job.end s.timers) ≡ o → entry_at j s.timers ≡ None → entry_at j (frees job.end s.timers) ≡ None
        by None e none = e
        by (Some u) e none = absurd (let z : None ≡ Some u = sym none ∙ (timer_back j u e).1 in cc)

    order2 : AreOrderly s2 (sight v)
    order2 = record { jobs = sorted_frees t0 0 v.ticket s.jobs a.order.jobs; timers = sorted_frees job.end 0 v.timers.next s.timers a.order.timers; inner = sorted_frees i 0 v.ticket s.inner a.order.inner; waiting = a.order.waiting; connections = a.order.connections; watches = a.order.watches; opening = a.order.opening }

    -- the names that are left
    names2 : (j h : ℕ) (e : Asker) → names_at d j ≡ Some h → next.asks h ≡ Some e → names_at (desk_of s2) j ≡ Some h
    names2 j h e nm at = name_stays conf t0 k nothing_under_way nothing_under_way d (desk_of s2) m m2 frames (dues v) (dues v) v.ticket v.ticket T change j h
        (λ q. let z : None ≡ Some e = sym gone ∙ (ap m2.asks q ∙ (ap (λ (g : ℕ → Option Asker). g h) (sym asks) ∙ at)) in cc) nm

    apart2 : (j h g : ℕ) → names_at (desk_of s2) j ≡ Some g → names_at (desk_of s2) h ≡ Some g → j ≡ h
    apart2 = apart_now conf t0 k nothing_under_way nothing_under_way d (desk_of s2) m m2 frames (dues v) (dues v) v.ticket v.ticket T change

    numbers_gone : (u : ℕ) → numbers (desk_of s2) u ≡ with_at t0 None (numbers d) u
    numbers_gone u = each_number (λ u. numbers (desk_of s2) u ≡ with_at t0 None (numbers d) u) t0
        (ap (option_map (λ (j : Job Request). j.number)) (at_frees t0 t0 0 v.ticket s.jobs a.order.jobs ∙ with_here t0 None (λ j. entry_at j s.jobs)) ∙ sym (with_here t0 None (numbers d)))
        (λ u ne. ap (option_map (λ (j : Job Request). j.number)) (jobs_beside u ne) ∙ sym (with_there t0 None (numbers d) u ne)) u

    owns2 : (j : ℕ) → Owns (desk_of s2) j → Owns d j
    owns2 j (inl o) = inl (o.0, (timer_back j o.0 o.1).1)
    owns2 j (inr o) = inr o

    abbrev z0 : View
    z0 = taken_back v w

    abbrev z1 : View
    z1 = answers t0 (part_of r) (drops_timer job.end z0)

    done : (R : Server) → (g : Went conf server fs nothing_under_way (desk_of s2) next vb R (taken_back vb w)) → (has_ended c.line.stage ≡ true → (g.made.state).conns p ≡ None) → FrameDone conf server p f fs d m v b (has_ended c.line.stage) R z1
    done R g closed = record {
      act = GivesIt k r;
      next = next;
      takes = takes;
      stays = refl;
      made = g.made;
      runs = g.runs;
      outs = g.outs;
      place = g.place;
      board = record { ticket = t0; part = part_of r; is_stale = false } ∷ [];
      put = refl;
      gives = (ap (option_map (λ (j : Job Request). j.number)) found.3 ∙ ap Some found.4, refl, gives_none (with_at t0 None (numbers d)) (numbers (desk_of R)) g.made.posts g.posts (λ u. g.named u ∙ numbers_gone u));
      more = refl;
      stands = record {
        server = server_retimed conf nothing_under_way (desk_of R) g.made.state (dues w) (dues z1) fs w.ticket w.ticket (λ j o. dues_without z0 job.end j fair_z ∙ with_there job.end None (dues w) j (not_end j o)) (le_refl w.ticket) g.stands.server;
        order = order_up R (sight z0) (sight z1) g.stands.order (le_refl w.timers.next) (le_refl w.ticket) (le_refl w.place);
        fair = record { order = (fair_without z0 job.end fair_z).order; words = fair_z.words };
      };
      on = let o = goes_then v z0 (drops_timer job.end z0) on0 (goes_without z0 job.end fair_z) in record { fair = record { order = o.fair.order; words = o.fair.words }; now = o.now; timer = o.timer; ticket = o.ticket; place = o.place; later = o.later };
      owned = λ j o. elim (g.owned j o) [ inl q ↦ inl (owns2 j q) | inr le ↦ inr le ];
      others = λ j due free set. dues_without z0 job.end j fair_z ∙ (with_there job.end None (dues w) j (λ e. free (inl (t0, ap (λ j. entry_at j s.timers) (sym e) ∙ T0.end))) ∙ g.others j due (λ o. free (owns2 j o)) set);
      closed = closed;
    }
      where
        fair_z : IsFair z0
        fair_z = record { order = g.on.fair.order; words = g.on.fair.words }

        on0 : GoesOn v z0
        on0 = record { fair = fair_z; now = g.on.now; timer = g.on.timer; ticket = g.on.ticket; place = g.on.place; later = g.on.later }

        not_end : (j : ℕ) → Owns (desk_of R) j → job.end ≡ j → ⊥
        not_end j o e = elim (g.owned j o) [
          | inl q ↦ not_there q
          | inr le ↦ (let z : None ≡ Some (T0.ask.since + stream_timeout conf) = sym (none_next v j a.fair le) ∙ (ap (dues v) (sym e) ∙ T0.over) in cc)
        ]
          where
            not_there : Owns (desk_of s2) j → ⊥
            not_there (inl o) = (timer_back j o.0 o.1).0 e
            not_there (inr o) = let b = a.watched o.0 o.1 j o.2 o.3 in let z : None ≡ Some t0 = sym b.1 ∙ (ap (λ j. entry_at j s.timers) (sym e) ∙ T0.end) in cc

    gave_result : Turned s2 m2 next → u.board ≡ record { ticket = i; part = part_of r; is_stale = false } ∷ [] → Leads (FrameDone conf server p f fs d m v b (has_ended c.line.stage)) (returns (one_stream for_one) p (taken (one_stream for_one) p l s) v (c, w))
    gave_result t board = subst (λ (ps : List Posted). Leads (FrameDone conf server p f fs d m v b (has_ended c.line.stage)) (collects ps (with_connection (one_stream for_one) p c (taken (one_stream for_one) p l s)) z0)) (sym board)
        (let called = call_so conf server p [] frames fs nothing_under_way s2 l m2 t.n vb w vb.request vb.ticket c refl same_frames tables2 links2 watched2 order2 fair_b a.is t.left next v.outs t.made t.state t.runs t.nothing t.outs (heard.at_place ∙ sym t.at_place) refl (le_refl v.ticket) t.quiet in
        by (has_ended c.line.stage) called.0 (λ e. ap (λ (x : Act Multi). (x.state).conns p) called.1 ∙ (ap (λ (n : Multi). n.conns p) t.state ∙ t.closed e)))
      where
        is_part : is_result (part_of r) ≡ true
        is_part = result_is v.now p f m (GivesIt k r) next k r takes refl

        one : (R : Server) → (g : Went conf server fs nothing_under_way (desk_of s2) next vb (record R { inner = frees i s.inner; jobs = frees t0 s.jobs; timers = frees job.end s.timers }) (taken_back vb w)) → (has_ended c.line.stage ≡ true → (g.made.state).conns p ≡ None) → R.inner ≡ s.inner → R.jobs ≡ s.jobs → R.timers ≡ s.timers
            → Leads (FrameDone conf server p f fs d m v b (has_ended c.line.stage)) (collects (record { ticket = i; part = part_of r; is_stale = false } ∷ []) R z0)
        one R g closed inner jobs timers =
            subst (λ (es : List (ℕ × ℕ)). Leads (FrameDone conf server p f fs d m v b (has_ended c.line.stage)) (option_and_then (λ y. Some y) (gets_at (part_of r) (record R { inner = frees i es }) z0 (entry_at i es)))) (sym inner)
            (subst (λ (o : Option ℕ). Leads (FrameDone conf server p f fs d m v b (has_ended c.line.stage)) (option_and_then (λ y. Some y) (gets_at (part_of r) (record R { inner = frees i s.inner }) z0 o))) (sym found.2)
            (subst (λ (es : List (ℕ × Job Request)). Leads (FrameDone conf server p f fs d m v b (has_ended c.line.stage)) (option_and_then (λ y. Some y) (gets_with es (entry_at t0 es)))) (sym jobs)
            (subst (λ (o : Option (Job Request)). Leads (FrameDone conf server p f fs d m v b (has_ended c.line.stage)) (option_and_then (λ y. Some y) (gets_with s.jobs o))) (sym found.3)
            (subst (λ b0. Leads (FrameDone conf server p f fs d m v b (has_ended c.line.stage)) (option_and_then (λ y. Some y) (gets_part b0 t0 job (part_of r) (record R { inner = frees i s.inner; jobs = frees t0 s.jobs }) z0))) (sym is_part)
            (subst (λ (es : List (ℕ × ℕ)). FrameDone conf server p f fs d m v b (has_ended c.line.stage) (record R { inner = frees i s.inner; jobs = frees t0 s.jobs; timers = frees job.end es }) z1) (sym timers)
            (done (record R { inner = frees i s.inner; jobs = frees t0 s.jobs; timers = frees job.end s.timers }) g closed))))))
          where
            gets_with : List (ℕ × Job Request) → Option (Job Request) → Option (Server × View)
            gets_with es None = Some (record R { inner = frees i s.inner }, z0)
            gets_with es (Some j) = gets_part (is_result (part_of r)) t0 j (part_of r) (record R { inner = frees i s.inner; jobs = frees t0 es }) z0

        by : (e : Bool) → (g : Went conf server fs nothing_under_way (desk_of s2) next vb (if e then taken (one_stream for_one) p l s2 else keeps (one_stream for_one) p c (taken (one_stream for_one) p l s2)) (taken_back vb w)) → (has_ended c.line.stage ≡ true → (g.made.state).conns p ≡ None)
            → Leads (FrameDone conf server p f fs d m v b (has_ended c.line.stage)) (collects (record { ticket = i; part = part_of r; is_stale = false } ∷ []) (if e then taken (one_stream for_one) p l s else keeps (one_stream for_one) p c (taken (one_stream for_one) p l s)) z0)
        by true g closed = one (taken (one_stream for_one) p l s) g closed refl refl refl
        by false g closed = one (keeps (one_stream for_one) p c (taken (one_stream for_one) p l s)) g closed refl refl refl

  -- it is bad, and the connection ends
  bad_so : TakesFrame v.now p f m (Puts (Close p)) (end_at p m) → HasEnded p (names_at d) m l.line (lent v) u → c.line ≡ ended l.line → Leads (FrameDone conf server p f fs d m v b (has_ended c.line.stage)) (returns (one_stream for_one) p (taken (one_stream for_one) p l s) v (c, w))
  bad_so takes e is =
      leads_as (Went conf server fs nothing_under_way d (end_at p m) (record vb { outs = v.outs ++ Close p ∷ [] })) (FrameDone conf server p f fs d m v b (has_ended c.line.stage)) (returns (one_stream for_one) p (taken (one_stream for_one) p l s) v (c, w))
      (ended_call conf server p l x s m frames vb (dues v) (record { tables = a.tables; links = a.links; watched = a.watched; order = a.order; fair = fair_b; is = a.is; line = a.line }) fs same_frames (end_at p m) (v.outs ++ Close p ∷ []) (still v.place (end_at p m)) (Rests v.place (end_at p m)) refl refl
      w c (record { outs = e.outs; posts = e.posts; put = e.put; failing = e.failing; seats = e.seats; timed = timed_more l.line.stage at.Ended (lent v) u b b e.timed; ticket = e.ticket; at_place = e.at_place; more = refl }) is refl (e.outs ∙ sym (append-nil (v.outs ++ Close p ∷ []))) (λ q. q))
      (λ r z g. record {
        act = Puts (Close p);
        next = end_at p m;
        takes = takes;
        stays = refl;
        made = g.made;
        runs = g.runs;
        outs = g.outs ∙ append_assoc v.outs (Close p ∷ []) g.made.outs;
        place = g.place;
        board = [];
        put = g.board ∙ sym (append-nil v.board);
        gives = gives_none (numbers d) (numbers (desk_of r)) g.made.posts g.posts g.named;
        more = g.more;
        stands = g.stands;
        on = record { fair = g.on.fair; now = g.on.now; timer = g.on.timer; ticket = g.on.ticket; place = g.on.place; later = g.on.later };
        owned = g.owned;
        others = g.others;
        closed = λ x. runs_none conf server v.now v.place (end_at p m) g.made p g.runs (with_here p None m.conns);
      })

  pub frame_done : Leads (FrameDone conf server p f fs d m v b (has_ended c.line.stage)) (returns (one_stream for_one) p (taken (one_stream for_one) p l s) v (c, w))
  frame_done = by heard.left
    where
      nothing_as : (act : multi.Act) (next : Multi) → act ≡ Nothing → TakesFrame v.now p f m act next → TakesFrame v.now p f m Nothing next
      nothing_as act next e takes = subst (λ act. TakesFrame v.now p f m act next) e takes

      apart_d : (i j k : ℕ) → names_at d i ≡ Some k → names_at d j ≡ Some k → i ≡ j
      apart_d = names_apart d T.apart T.inner

      by_open : (act : multi.Act) (next : Multi) (y : Conn) → TakesFrame v.now p f m act next → IsLineAt conf p (names_at d) c.line next y (dues u) u.ticket → (c.line.writing ≡ None → c.line.queue ≡ []) → y.got ≡ x.got → u.outs ≡ v.outs
          → ((q : ℕ) → (p ≡ q → ⊥) → next.conns q ≡ m.conns q) → next.opening ≡ m.opening → next.calm ≡ m.calm → Gave (names_at d) m next (lent v) u act → Leads (FrameDone conf server p f fs d m v b (has_ended c.line.stage)) (returns (one_stream for_one) p (taken (one_stream for_one) p l s) v (c, w))
      by_open act next y takes line settled got outs conns opening calm (GaveNothing e board asks) = gave_nothing next (nothing_as act next e takes) asks (turned_open s m next asks conns opening calm (λ i j e nm at. nm) apart_d y line settled got outs) board
      by_open act next y takes line settled got outs conns opening calm (GaveResult i k r e nm board asks) =
          let takes_it = subst (λ act. TakesFrame v.now p f m act next) e takes in
          gave_result next i k r takes_it nm asks (turned_open (s2 next i k r takes_it nm asks) (drop k m) next asks conns opening calm (names2 next i k r takes_it nm asks) (apart2 next i k r takes_it nm asks) y line settled got outs) board

      by_closed : (act : multi.Act) (next : Multi) (y : Conn) → TakesFrame v.now p f m act next → u.outs ≡ v.outs ++ Close p ∷ [] → next.conns p ≡ Some y → y.mode ≡ Idle v.now → y.idle ≡ 0 → ((k : ℕ) (e : Asker) → next.asks k ≡ Some e → e.phase ≢ Lined p) → ((k : ℕ) (e : Asker) (id : ℕ) → next.asks k ≡ Some e → e.phase ≢ Holding p id) → c.line.stage ≡ at.Ended
          → ((q : ℕ) → (p ≡ q → ⊥) → next.conns q ≡ m.conns q) → next.opening ≡ m.opening → next.calm ≡ m.calm → Gave (names_at d) m next (lent v) u act → Leads (FrameDone conf server p f fs d m v b (has_ended c.line.stage)) (returns (one_stream for_one) p (taken (one_stream for_one) p l s) v (c, w))
      by_closed act next y takes outs conn mode idle nl nh st conns opening calm (GaveNothing e board asks) = gave_nothing next (nothing_as act next e takes) asks (turned_closed s m next asks conns opening calm (λ i j e nm at. nm) apart_d y conn mode idle nl nh st outs) board
      by_closed act next y takes outs conn mode idle nl nh st conns opening calm (GaveResult i k r e nm board asks) =
          let takes_it = subst (λ act. TakesFrame v.now p f m act next) e takes in
          gave_result next i k r takes_it nm asks (turned_closed (s2 next i k r takes_it nm asks) (drop k m) next asks conns opening calm (names2 next i k r takes_it nm asks) (apart2 next i k r takes_it nm asks) y conn mode idle nl nh st outs) board

      by : FrameLeft conf p (names_at d) m x l.line (lent v) f c.line u → Leads (FrameDone conf server p f fs d m v b (has_ended c.line.stage)) (returns (one_stream for_one) p (taken (one_stream for_one) p l s) v (c, w))
      by (StaysOpen act next y takes gave outs line settled hd got conns opening calm) = by_open act next y takes line settled got outs conns opening calm gave
      by (ClosesAsBad takes e is) = bad_so takes e is
      by (ClosesBehind act next y takes gave outs conn mode idle nl nh st conns opening calm) = by_closed act next y takes outs conn mode idle nl nh st conns opening calm gave
