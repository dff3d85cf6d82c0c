-- What holds of a tie but for its calls: how it begins, what it looks at, and when it rests.
use Rattle.std.proofs.Common.{◌≡◌, ◌≢◌, ℕ, suc, ◌+◌, ◌<◌, ◌≤◌, inl, inr, max, Bool, true, false, ◌==◌, ◌||◌, is_some, List, [], ◌∷◌, length, Option, Some, None, refl, sym, ap, ap₂, subst, ◌∙◌, arith, le_refl}
use Rattle.std.specs.Prelude.{if◌then◌else◌, option_map}
use Rattle.std.proofs.lemmas.Bool.Decides.{nat_tests}
use mathlib.Core.Path.{fun_ext}
use Rattle.client_request.specs.Numbered.{entry_at}
use Rattle.client_request.specs.Request.{Request}
use Rattle.client_request.specs.View.{View}
use Rattle.client_request.specs.declared.event.Event.{Event}
use Rattle.client_request.specs.declared.event.What.{What}
use Rattle.client_request.specs.declared.event.What.TheVariants.{Ask, Opened, OpenFailed, SendFailed, ShortSend, Datagram, RecvFailed, Wrote, WriteFailed, Bytes, ReadFailed, Ended, Tick}
use Rattle.client_stream.specs.declared.request.QueuedRequest.{QueuedRequest as Queued}
use Rattle.client_multi.specs.Links.{Link}
use Rattle.client_multi.specs.MultiStream.{started}
use Rattle.right_settings.specs.Given.{streams_of}
use Rattle.client_multi.specs.declared.multi_stream.job.Job.{Job}
use Rattle.client_multi.specs.declared.multi_stream.job.Stage.{Stage}
use Rattle.right_trace.specs.Messages.{Octets}
use Rattle.right_trace.specs.Time.{response_timeout, stream_timeout}
use Rattle.proof_right.specs.machine.Dgrams.{Dgrams, Tryer, IsIgnored, no_datagram}
use Rattle.proof_right.specs.machine.Served.{Served, RestsNow, unserved, row_begun, holds}
use Rattle.proof_right.specs.machine.Server.{Rests}
use Rattle.proof_right.specs.machine.Streams.{Phase as Where, Free, Broken, BackingOff, Active, Idle, Asker, Conn, Multi, IsForeign, begin_row, unheard}
use Rattle.proof_parts.specs.Connections.{dues, timer_of}
use Rattle.proof_parts.specs.Lines.{StageFits as LineStageFits, IsNew, IsActive, IsIdle, WritingFits, IsFree, IsWriting}
use Rattle.proof_parts.specs.Octets.{IsLinkAt}
use Rattle.proof_parts.specs.PartTie.{Phase, Untold, Told, Passed, WasTold, place_in, IsNobodys, MayEnd}
use Rattle.proof_parts.specs.Places.{is_this, has_place}
use Rattle.proof_parts.specs.Sights.{Sight, sight}
use Rattle.proof_parts.proofs.Tables.{present_below}
use Rattle.proof_multi.specs.Servers.{Desk, desk_of, names_at, nothing_under_way, IsThere, StageFits, AtWaiting, AtResting, AtHeld, HasFailed, IsToHand, JobFits, LinkFits, IsNone, IsSome, IsServer}
use Rattle.proof_multi.specs.Tied.{Streams, IsStream, IsUntold, AreEarly, TiedAs, frames_at, names_of, owns}
use Rattle.proof_multi.proofs.Calling.{owned_set}
use Rattle.proof_multi.proofs.Desks.{away_none, number_of}
use Rattle.proof_multi.proofs.Retimed.{server_retimed, order_up}
use Rattle.right_trace.specs.Trace.{Conf}

module _ (conf : Conf) (s : ℕ) where
  pub begins_fresh : (several : ℕ) (x : Sight) → x.now ≡ 0 → TiedAs conf s (Told 0 0) (started s (streams_of several conf)) x unserved
  begins_fresh several x now = record {
    stream = record {
      server = refl;
      settings = refl;
      takes = refl;
      clock = sym now;
      dgram = refl;
      ties = record {
        tables = record {
          jobs = λ t job e. absurd (let z : None ≡ Some job = e in cc);
          asked = λ k a e. absurd (let z : None ≡ Some a = e in cc);
          apart = λ t u job other e f g. absurd (let z : None ≡ Some job = e in cc);
          timers = λ i t e. absurd (let z : None ≡ Some t = e in cc);
          inner = λ i t e. absurd (let z : None ≡ Some t = e in cc);
          waiting = λ t l. absurd l;
          todo = λ t phase l. absurd l;
          failing = λ i k l named. absurd l;
          opening = refl;
          calm = le_refl 0;
        };
        links = λ p. IsNone refl refl (λ k. away_none p None refl);
        watched = λ p l i e own. absurd (let z : None ≡ Some l = e in cc);
      };
      order = record { jobs = tt; timers = tt; inner = tt; waiting = tt; connections = tt; watches = tt; opening = λ p e. absurd (let z : None ≡ Some p = e in cc) };
    };
    count = refl;
    at = inl refl;
    row = inl refl;
    told = ((λ i due o e. absurd (elim o [ inl q ↦ (let z : None ≡ Some q.0 = q.1 in cc) | inr q ↦ (let z : None ≡ Some q.1 = q.2 in cc) ])), λ q e. absurd (let z : false ≡ true = e in cc));
  }

  stream_same : (u : Streams) (x y : Sight) (a : Served) → IsStream conf s u x a → y.now ≡ x.now → ((i : ℕ) → owns u i → y.dues i ≡ x.dues i) → x.timer ≤ y.timer → x.ticket ≤ y.ticket → x.place ≤ y.place → IsStream conf s u y a
  stream_same u x y a i now due timer ticket place = record {
    server = i.server;
    settings = i.settings;
    takes = i.takes;
    clock = i.clock ∙ sym now;
    dgram = i.dgram;
    ties = server_retimed conf nothing_under_way (desk_of u.tables) a.server.by_stream x.dues y.dues (frames_at a.place a.frames) x.ticket y.ticket due ticket i.ties;
    order = order_up u.tables x y i.order timer ticket place;
  }

  early_same : (u : Streams) (x y : Sight) → AreEarly (desk_of u.tables) x → y.now ≡ x.now → ((i : ℕ) → owns u i → y.dues i ≡ x.dues i) → AreEarly (desk_of u.tables) y
  early_same u x y early now due i d o set = subst (λ n. n < d) (sym now) (early i d o (sym (due i o) ∙ set))

  untold_same : (w : What) (u : Streams) (x y : Sight) (a : Served) → IsUntold conf s w u x a → y.now ≡ x.now → ((i : ℕ) → owns u i → y.dues i ≡ x.dues i) → x.timer ≤ y.timer → x.ticket ≤ y.ticket → x.place ≤ y.place → IsUntold conf s w u y a
  untold_same w u x y a t now due timer ticket place = record { stream = stream_same u x y a t.stream now due timer ticket place; pending = t.pending; taken = t.taken; frames = t.frames; quiet = t.quiet }

  pub stays_same : (phase : Phase) (u : Streams) (x y : Sight) (a : Served) → TiedAs conf s phase u x a → y.now ≡ x.now → ((i : ℕ) → owns u i → y.dues i ≡ x.dues i) → x.timer ≤ y.timer → x.ticket ≤ y.ticket → x.place ≤ y.place → TiedAs conf s phase u y a
  stays_same (Untold w) u x y a t now due timer ticket place = untold_same w u x y a t now due timer ticket place
  stays_same (Passed w) u x y a t now due timer ticket place = record { untold = untold_same w u x y a t.untold now due timer ticket place; early = early_same u x y t.early now due; apart = t.apart }
  stays_same (Told p n) u x y a t now due timer ticket place = record {
    stream = stream_same u x y a t.stream now due timer ticket place;
    count = t.count;
    at = t.at;
    row = t.row;
    told = (early_same u x y t.told.0 now due, t.told.1);
  }

  pub stream_of : (phase : Phase) (u : Streams) (x : Sight) (a : Served) → TiedAs conf s phase u x a → IsStream conf s u x a
  stream_of (Untold w) u x a t = t.stream
  stream_of (Told p n) u x a t = t.stream
  stream_of (Passed w) u x a t = t.untold.stream

  -- none of its timers is due once the event was told
  pub none_due : (phase : Phase) (u : Streams) (x : Sight) (a : Served) → WasTold phase → TiedAs conf s phase u x a → AreEarly (desk_of u.tables) x
  none_due (Untold w) u x a was t = absurd was
  none_due (Told p n) u x a was t = t.told.0
  none_due (Passed w) u x a was t = t.early

  pub has_set : (phase : Phase) (u : Streams) (x : Sight) (a : Served) (i : ℕ) → TiedAs conf s phase u x a → owns u i → (due : ℕ) × (x.dues i ≡ Some due)
  has_set phase u x a i t o = owned_set conf nothing_under_way (desk_of u.tables) a.server.by_stream (frames_at a.place a.frames) x.dues x.ticket (stream_of phase u x a t).ties i o

  pub no_tryer : (g : Dgrams) (k : ℕ) → g ≡ no_datagram → g.held k ≡ None
  no_tryer g k e = ap (λ (g : Dgrams). g.held k) e

  pub is_named : (phase : Phase) (u : Streams) (x : Sight) (a : Served) (i k : ℕ) → TiedAs conf s phase u x a → names_of u i ≡ Some k → (i < x.ticket) × (holds a k ≡ true)
  is_named phase u x a i k t named =
      let st = stream_of phase u x a t in
      let o = number_of (entry_at i u.tables.jobs) k named in
      let j = st.ties.tables.jobs i o.0 o.1 in
      (present_below i 0 x.ticket o.0 u.tables.jobs st.order.jobs o.1, ap₂ (λ (b : Option Tryer) (c : Option Asker). is_some b || is_some c) (no_tryer a.server.by_dgram k st.dgram) (ap a.server.by_stream.asks (sym o.2) ∙ j.is))

  pub is_held : (phase : Phase) (u : Streams) (x : Sight) (a : Served) (k : ℕ) → TiedAs conf s phase u x a → holds a k ≡ true → (i : ℕ) × (names_of u i ≡ Some k)
  is_held phase u x a k t held = by (a.server.by_stream.asks k) refl
    where
      by : (o : Option Asker) → a.server.by_stream.asks k ≡ o → (i : ℕ) × (names_of u i ≡ Some k)
      by None e = absurd (let z : false ≡ true = sym (ap₂ (λ (b : Option Tryer) (c : Option Asker). is_some b || is_some c) (no_tryer a.server.by_dgram k (stream_of phase u x a t).dgram) e) ∙ held in cc)
      by (Some b) e = let o = (stream_of phase u x a t).ties.tables.asked k b e in (o.0, ap (option_map (λ (j : Job Request). j.number)) o.2 ∙ ap Some o.3)

  -- A row begins

  none_either : (b : Bool) (xs : List Octets) → (if b then xs else xs) ≡ xs
  none_either true xs = refl
  none_either false xs = refl

  pub frames_none : (p q : ℕ) → frames_at p [] q ≡ []
  frames_none p q = none_either (p == q) []

  same_frames : (p : ℕ) (fs : List Octets) → fs ≡ [] → frames_at p fs ≡ frames_at 0 []
  same_frames p fs e = fun_ext (λ q. ap (λ (fs : List Octets). frames_at p fs q) e ∙ (frames_none p q ∙ sym (frames_none 0 q)))

  link_begun : (d : Desk) (m : Multi) (frames : ℕ → List Octets) (f : ℕ → Option ℕ) (ticket p : ℕ) → LinkFits conf d m frames f ticket p → LinkFits conf d (begin_row m) frames f ticket p
  link_begun d m frames f ticket p (IsNone a b away) = IsNone a (ap unheard b) away
  link_begun d m frames f ticket p (IsSome l x a link) = IsSome l (record x { heard = false }) a (record {
    place = link.place;
    timeout = link.timeout;
    line = record {
      conn = ap unheard link.line.conn;
      seated = link.line.seated;
      fits = record { stage = link.line.fits.stage; writing = link.line.fits.writing; idle = link.line.fits.idle; timeout = link.line.fits.timeout; resting = link.line.fits.resting; order = link.line.fits.order; few = link.line.fits.few; ids = link.line.fits.ids; queue = link.line.fits.queue };
    };
    settled = link.settled;
    keeps = link.keeps;
  })

  server_begun : (d : Desk) (m : Multi) (frames : ℕ → List Octets) (f : ℕ → Option ℕ) (ticket : ℕ) → IsServer conf nothing_under_way d m frames f ticket → IsServer conf nothing_under_way d (begin_row m) frames f ticket
  server_begun d m frames f ticket i = record {
    tables = record {
      jobs = λ t job e. (let j = i.tables.jobs t job e in record { ask = j.ask; is = j.is; request = j.request; octets = j.octets; end = j.end; over = j.over; stage = j.stage });
      asked = i.tables.asked;
      apart = i.tables.apart;
      timers = i.tables.timers;
      inner = i.tables.inner;
      waiting = i.tables.waiting;
      todo = i.tables.todo;
      failing = i.tables.failing;
      opening = i.tables.opening;
      calm = i.tables.calm;
    };
    links = λ p. link_begun d m frames f ticket p (i.links p);
    watched = i.watched;
  }

  none_of : (fs : List Octets) → length fs ≡ 0 → fs ≡ []
  none_of [] e = refl
  none_of (f ∷ fs) e = absurd (not_zero (length fs) e)
    where
      not_zero : (n : ℕ) → suc n ≡ 0 → ⊥
      not_zero n e = grind arith

  -- no frame is left
  none_left : (phase : Phase) (u : Streams) (x : Sight) (a : Served) → MayEnd phase → TiedAs conf s phase u x a → a.frames ≡ []
  none_left (Untold w) u x a end t = t.frames
  none_left (Told p n) u x a end t = none_of a.frames (t.count ∙ end)
  none_left (Passed w) u x a end t = t.untold.frames

  pub row_begins : (phase : Phase) (u : Streams) (x : Sight) (a : Served) (e : Event) → MayEnd phase → TiedAs conf s phase u x a → TiedAs conf s (Untold e.what) u (record x { now = max e.moment.0 x.now }) (row_begun e a)
  row_begins phase u x a e end t = record {
    stream = (let i = stream_of phase u x a t in record {
      server = i.server;
      settings = i.settings;
      takes = i.takes;
      clock = ap (max e.moment.0) i.clock;
      dgram = i.dgram;
      ties = subst (λ (fs : ℕ → List Octets). IsServer conf nothing_under_way (desk_of u.tables) (begin_row a.server.by_stream) fs x.dues x.ticket) (same_frames a.place a.frames (none_left phase u x a end t))
          (server_begun (desk_of u.tables) a.server.by_stream (frames_at a.place a.frames) x.dues x.ticket i.ties);
      order = order_up u.tables x (record x { now = max e.moment.0 x.now }) i.order (le_refl x.timer) (le_refl x.ticket) (le_refl x.place);
    });
    pending = refl;
    taken = refl;
    frames = refl;
    quiet = λ q y at. by (a.server.by_stream.conns q) y at;
  }
    where
      by : (o : Option Conn) (y : Conn) → unheard o ≡ Some y → y.heard ≡ false
      by None y e = absurd (let z : None ≡ Some y = e in cc)
      by (Some x) y e = let f : record x { heard = false } ≡ y = (let z : Some (record x { heard = false }) ≡ Some y = e in cc) in ap (λ (x : Conn). x.heard) (sym f)

  -- It rests

  ignores : (w : What) → IsIgnored conf w no_datagram
  ignores (Ask r) = tt
  ignores (Opened p) = λ t. (let e = t.2 in cc)
  ignores (OpenFailed p f) = λ t. (let e = t.2 in cc)
  ignores (SendFailed p f) = λ t. (let e = t.4 in cc)
  ignores (ShortSend p) = λ t. (let e = t.4 in cc)
  ignores (Datagram p o) = λ k a id t at held stage long. absurd (cc)
  ignores (RecvFailed p f) = λ t. (let e = t.4 in cc)
  ignores (Wrote p n) = tt
  ignores (WriteFailed p f) = tt
  ignores (Bytes p o) = tt
  ignores (ReadFailed p f) = tt
  ignores (Ended p) = tt
  ignores Tick = tt

  pub ignored : (w : What) (g : Dgrams) → g ≡ no_datagram → IsIgnored conf w g
  ignored w g e = subst (IsIgnored conf w) (sym e) (ignores w)

  pub nobodys_foreign : (w : What) (m : Multi) → IsNobodys w → IsForeign w m
  nobodys_foreign (Ask r) m n = λ q e. absurd (let z : false ≡ true = e in cc)
  nobodys_foreign (Opened p) m n = absurd n
  nobodys_foreign (OpenFailed p f) m n = absurd n
  nobodys_foreign (SendFailed p f) m n = absurd n
  nobodys_foreign (ShortSend p) m n = absurd n
  nobodys_foreign (Datagram p o) m n = absurd n
  nobodys_foreign (RecvFailed p f) m n = absurd n
  nobodys_foreign (Wrote p k) m n = absurd n
  nobodys_foreign (WriteFailed p f) m n = absurd n
  nobodys_foreign (Bytes p o) m n = absurd n
  nobodys_foreign (ReadFailed p f) m n = absurd n
  nobodys_foreign (Ended p) m n = absurd n
  nobodys_foreign Tick m n = λ q e. absurd (let z : false ≡ true = e in cc)

  -- An event of no place here is foreign.

  no_conn : (a : Served) (p : ℕ) → has_place a p ≡ false → a.server.by_stream.conns p ≡ None
  no_conn a p none = by (is_some (a.server.by_dgram.at p)) (a.server.by_stream.conns p) (is_this p a.server.by_stream.opening) none
    where
      by : (d : Bool) (o : Option Conn) (i : Bool) → (d || (is_some o || i)) ≡ false → o ≡ None
      by d None i e = refl
      by true (Some x) i e = absurd (let z : true ≡ false = e in cc)
      by false (Some x) i e = absurd (let z : true ≡ false = e in cc)

  not_opening : (a : Served) (p : ℕ) → has_place a p ≡ false → a.server.by_stream.opening ≢ Some p
  not_opening a p none opens = by (is_some (a.server.by_dgram.at p)) (is_some (a.server.by_stream.conns p)) (is_this p a.server.by_stream.opening) (ap (is_this p) opens ∙ itself p) none
    where
      itself : (p : ℕ) → (p == p) ≡ true
      itself p = grind (arith, nat_tests)

      by : (d b i : Bool) → i ≡ true → (d || (b || i)) ≡ false → ⊥
      by true b i is e = cc
      by false true i is e = cc
      by false false i is e = let z : true ≡ false = sym is ∙ e in cc

  same_place : (p q : ℕ) → (p == q) ≡ true → p ≡ q
  same_place p q e = grind (arith, nat_tests)

  pub apart_foreign : (w : What) (a : Served) → ((p : ℕ) → place_in w ≡ Some p → has_place a p ≡ false) → IsForeign w a.server.by_stream
  apart_foreign (Ask r) a apart = λ q e. absurd (let z : false ≡ true = e in cc)
  apart_foreign (Opened p) a apart = not_opening a p (apart p refl)
  apart_foreign (OpenFailed p f) a apart = not_opening a p (apart p refl)
  apart_foreign (SendFailed p f) a apart = tt
  apart_foreign (ShortSend p) a apart = tt
  apart_foreign (Datagram p o) a apart = λ q e. absurd (let z : false ≡ true = e in cc)
  apart_foreign (RecvFailed p f) a apart = tt
  apart_foreign (Wrote p k) a apart = no_conn a p (apart p refl)
  apart_foreign (WriteFailed p f) a apart = λ q e. subst (λ p. a.server.by_stream.conns p ≡ None) (same_place p q e) (no_conn a p (apart p refl))
  apart_foreign (Bytes p o) a apart = no_conn a p (apart p refl)
  apart_foreign (ReadFailed p f) a apart = λ q e. subst (λ p. a.server.by_stream.conns p ≡ None) (same_place p q e) (no_conn a p (apart p refl))
  apart_foreign (Ended p) a apart = λ q e. subst (λ p. a.server.by_stream.conns p ≡ None) (same_place p q e) (no_conn a p (apart p refl))
  apart_foreign Tick a apart = λ q e. absurd (let z : false ≡ true = e in cc)

  module _ (u : Streams) (v : View) (a : Served) (i : IsStream conf s u (sight v) a) (early : AreEarly (desk_of u.tables) (sight v)) where
    abbrev m : Multi
    m = a.server.by_stream

    abbrev d : Desk
    d = desk_of u.tables

    -- the job of a request
    job_of : (k : ℕ) (e : Asker) → m.asks k ≡ Some e → (t : ℕ) × (job : Job Request) × (j : JobFits conf nothing_under_way d m (dues v) t job) × (j.ask ≡ e)
    job_of k e at =
        let o = i.ties.tables.asked k e at in
        let j = i.ties.tables.jobs o.0 o.1 o.2 in
        (o.0, o.1, j, (let z : Some j.ask ≡ Some e = sym j.is ∙ (ap m.asks o.3 ∙ at) in cc))

    no_loose : (t : ℕ) (stage : Stage) (phase : Where) → StageFits nothing_under_way d (dues v) t stage phase → (phase ≢ Free) × (phase ≢ Broken)
    no_loose t stage phase (AtWaiting x b l) = ((λ e. let z = sym b ∙ e in cc), (λ e. let z = sym b ∙ e in cc))
    no_loose t stage phase (AtResting j until x b o h) = ((λ e. let z = sym b ∙ e in cc), (λ e. let z = sym b ∙ e in cc))
    no_loose t stage phase (AtHeld p j x b o) = ((λ e. subst (IsThere p) e b), (λ e. subst (IsThere p) e b))
    no_loose t stage phase (HasFailed p j x b o h) = absurd h
    no_loose t stage phase (IsToHand l w h) = absurd l

    not_loose : (k : ℕ) (e : Asker) → m.asks k ≡ Some e → (e.phase ≢ Free) × (e.phase ≢ Broken)
    not_loose k e at = let j = job_of k e at in subst (λ (e : Asker). (e.phase ≢ Free) × (e.phase ≢ Broken)) j.3 (no_loose j.0 (j.1).stage (j.2).ask.phase (j.2).stage)

    rests_until : (t until : ℕ) (stage : Stage) (phase : Where) → StageFits nothing_under_way d (dues v) t stage phase → phase ≡ BackingOff until → v.now < until
    rests_until t until stage phase (AtWaiting x b l) e = absurd (let z = sym b ∙ e in cc)
    rests_until t until stage phase (AtResting j at x b o h) e = early j until (inl (t, o)) (h ∙ ap Some (let z : BackingOff at ≡ BackingOff until = sym b ∙ e in cc))
    rests_until t until stage phase (AtHeld p j x b o) e = absurd (subst (IsThere p) e b)
    rests_until t until stage phase (HasFailed p j x b o h) e = absurd h
    rests_until t until stage phase (IsToHand l w h) e = absurd l

    -- the connection that the machine has at a place
    link_of : (p : ℕ) (x : Conn) → m.conns p ≡ Some x → LinkFits conf d m (frames_at a.place a.frames) (dues v) v.ticket p → (l : Link Request) × IsLinkAt conf p (names_at d) l m x (frames_at a.place a.frames p) (dues v) v.ticket × (d.links p ≡ Some l)
    link_of p x at (IsNone b c away) = absurd (let z : None ≡ Some x = sym c ∙ at in cc)
    link_of p x at (IsSome l y b link) = (l, subst (λ x. IsLinkAt conf p (names_at d) l m x (frames_at a.place a.frames p) (dues v) v.ticket) (let z : Some y ≡ Some x = sym link.line.conn ∙ at in cc) link, b)

    pub in_time : (k : ℕ) (e : Asker) → m.asks k ≡ Some e → v.now < e.since + stream_timeout conf
    in_time k e at = let j = job_of k e at in subst (λ (e : Asker). v.now < e.since + stream_timeout conf) j.3 (early (j.1).end ((j.2).ask.since + stream_timeout conf) (inl (j.0, (j.2).end)) (j.2).over)

    rests_now : Rests conf v.now a.server
    rests_now = record {
      waiting = λ k t e q. absurd (no_try k t e);
      reading = λ k t p id n e q. absurd (no_try k t e);
      ending = λ k t x e q. no_try k t e;
      cut = λ k t e q. no_try k t e;
      free = λ k e at. (not_loose k e at).0;
      broken = λ k e at. (not_loose k e at).1;
      lined = λ k e p x at ph conn. (let o = link_of p x conn (i.ties.links p) in let l = o.1.line.seated.lined k e at ph in unwritten o.0 x o.1.line.fits.writing (λ w. (let none = o.1.settled w in let z : None ≡ Some l.1 = sym (ap (λ (es : List (ℕ × Queued Request Request)). entry_at l.0 es) none) ∙ l.3 in cc)));
      backing = λ k e until at ph. (let j = job_of k e at in rests_until j.0 until (j.1).stage (j.2).ask.phase (j.2).stage (ap (λ (e : Asker). e.phase) j.3 ∙ ph));
      silent = in_time;
      quiet = λ p x since conn md. (let o = link_of p x conn (i.ties.links p) in active p o.0 o.2 x since md o.1.line.fits.stage);
      idle = λ p x since conn md. (let o = link_of p x conn (i.ties.links p) in idles p o.0 o.2 x since md o.1.line.fits.idle o.1.line.fits.stage);
    }
      where
        no_try : (k : ℕ) (t : Tryer) → a.server.by_dgram.held k ≡ Some t → ⊥
        no_try k t e = let z : None ≡ Some t = sym (no_tryer a.server.by_dgram k i.dgram) ∙ e in cc

        unwritten : (l : Link Request) (x : Conn) → WritingFits l.line.writing x.left → (l.line.writing ≡ None → ⊥) → 0 < x.left
        unwritten l x (IsWriting o g h lt) never = lt
        unwritten l x (IsFree g h) never = absurd (never g)

        below_one : (n b : ℕ) → n < b + 1 → n ≤ b
        below_one n b lt = omega arith

        active : (p : ℕ) (l : Link Request) → d.links p ≡ Some l → (x : Conn) (since : ℕ) → x.mode ≡ Active since → LineStageFits conf (dues v) l.line.idle_time l.line.stage x.mode → v.now ≤ since + response_timeout conf
        active p l is x since md (IsNew f g) = absurd (let z = sym g ∙ md in cc)
        active p l is x since md (IsActive t at f g h) = below_one v.now (since + response_timeout conf) (early t (since + response_timeout conf + 1) (inr (p, l, is, ap timer_of f)) (h ∙ ap (λ n. Some (n + response_timeout conf + 1)) (let z : Active at ≡ Active since = sym g ∙ md in cc)))
        active p l is x since md (IsIdle t at f g h) = absurd (let z = sym g ∙ md in cc)

        idles : (p : ℕ) (l : Link Request) → d.links p ≡ Some l → (x : Conn) (since : ℕ) → x.mode ≡ Idle since → l.line.idle_time ≡ x.idle → LineStageFits conf (dues v) l.line.idle_time l.line.stage x.mode → v.now < since + x.idle
        idles p l is x since md idle (IsNew f g) = absurd (let z = sym g ∙ md in cc)
        idles p l is x since md idle (IsActive t at f g h) = absurd (let z = sym g ∙ md in cc)
        idles p l is x since md idle (IsIdle t at f g h) = early t (since + x.idle) (inr (p, l, is, ap timer_of f)) (h ∙ ap₂ (λ n k. Some (n + k)) (let z : Idle at ≡ Idle since = sym g ∙ md in let q : at ≡ since = cc in q) idle)

  -- the event concerns no connection that is there
  nothing_pending : (phase : Phase) (u : Streams) (x : Sight) (a : Served) → MayEnd phase → TiedAs conf s phase u x a → IsForeign a.pending a.server.by_stream
  nothing_pending (Untold w) u x a end t = nobodys_foreign a.pending a.server.by_stream (subst IsNobodys (sym t.pending) end)
  nothing_pending (Told p n) u x a end t = t.told.1
  nothing_pending (Passed w) u x a end t = subst (λ w. IsForeign w a.server.by_stream) (sym t.untold.pending) (apart_foreign w a t.apart)

  pub it_rests : (phase : Phase) (u : Streams) (v : View) (a : Served) → MayEnd phase → AreEarly (desk_of u.tables) (sight v) → TiedAs conf s phase u (sight v) a → RestsNow conf a
  it_rests phase u v a end early t = (let i = stream_of phase u (sight v) a t in record {
    rests = subst (λ n. Rests conf n a.server) (sym i.clock) (rests_now u v a i early);
    frames = none_left phase u (sight v) a end t;
    ignored = ignored a.pending a.server.by_dgram i.dgram;
    foreign = nothing_pending phase u (sight v) a end t;
  })
