-- An event is told to reconnection, or a frame is taken, beside moves of the part.
use Rattle.std.proofs.Common.{◌≡◌, ◌≢◌, ℕ, suc, ◌+◌, ◌<◌, ◌≤◌, ◌⊎◌, inl, inr, Bool, true, false, ◌==◌, List, [], ◌∷◌, ◌++◌, length, Some, None, refl, sym, ap, ap₂, subst, subst₂, ◌∙◌, arith, le_refl, append-nil, append_assoc}
use Rattle.std.specs.Prelude.{if◌then◌else◌, nat_lt}
use Rattle.std.proofs.lemmas.Bool.Decides.{nat_tests}
use Rattle.client_request.specs.Request.{Request}
use Rattle.client_request.specs.Requests.{for_one}
use Rattle.client_request.specs.View.{View, told}
use Rattle.client_request.specs.declared.board.Posted.{Posted}
use Rattle.client_request.specs.declared.event.Out.{Out}
use Rattle.client_request.specs.declared.event.What.{What}
use Rattle.client_request.specs.declared.event.What.TheVariants.{Ask, Opened, OpenFailed, SendFailed, ShortSend, Datagram, RecvFailed, Wrote, WriteFailed, Bytes, ReadFailed, Ended, Tick}
use Rattle.client_stream.specs.Plain.{has_ended}
use Rattle.client_settings.specs.Stream.{Settings as StreamSettings}
use Rattle.client_multi.specs.Links.{Link, one_stream}
use Rattle.client_multi.specs.MultiStream.{tells, returns, taken, lent}
use Rattle.client_settings.specs.MultiStream.{Settings}
use Rattle.right_trace.specs.Messages.{Octets}
use Rattle.right_trace.specs.Time.{response_timeout, stream_timeout}
use Rattle.right_trace.specs.Trace.{Conf}
use Rattle.proof_right.specs.machine.Dgrams.{no_datagram}
use Rattle.proof_right.specs.machine.Part.{Act, Post}
use Rattle.proof_right.specs.machine.Served.{Served, IsInTime, TellsStreams, TakesOne, served, has_taken_it, frames_left, does, place_after, outs_of, posts_of}
use Rattle.proof_right.specs.machine.Streams as multi
use Rattle.proof_right.specs.machine.Streams.{Asker, Conn, Multi, Nothing, Takes, TakesFrame, IsDropped, IsForeign, set_conn, fed_by}
use Rattle.proof_parts.specs.Chains.{Chain, Stays, Goes, Gives, still, then_act}
use Rattle.proof_parts.specs.Connections.{dues, HasHeard}
use Rattle.proof_parts.specs.Octets.{IsLinkAt, HasRead, ReadsOne, says}
use Rattle.proof_parts.specs.PartTie.{Told, IsNobodys, Leads, Tells, MayLeave, GoesOn}
use Rattle.proof_parts.specs.Reading.{Keeps}
use Rattle.proof_parts.specs.Sights.{sight, IsFair}
use Rattle.proof_parts.proofs.GoingOn.{nothing_done}
use Rattle.proof_multi.specs.Servers.{Desk, Server, desk_of, numbers, names_at, nothing_under_way, LinkFits, IsNone, IsSome, AreTables, IsServer, Owns, Stands}
use Rattle.proof_multi.specs.Tied.{Streams, by_streams, IsStream, IsUntold, AreEarly, TiedAs, frames_at, names_of, owns}
use Rattle.proof_multi.proofs.Fields.{ignored, nobodys_foreign, frames_none, no_tryer}
use Rattle.proof_multi.proofs.Framing.{FrameDone, frame_done}
use Rattle.proof_multi.proofs.Going.{Went, leads_as}
use Rattle.proof_multi.proofs.Serving.{stream_moved, lift, runs_chain, chain_then, gives_none, leads_whole}
use Rattle.proof_multi.proofs.Stepping.{AtWork}
use Rattle.proof_multi.proofs.Telling.{ToldOf, Passes, Takes_it, said, told_so}
use Rattle.proof_multi.proofs.Tying.{stands_of, still_early}
use Rattle.right_settings.specs.Given.{streams_of}

pub few : (n : ℕ) → 0 ≤ n
few n = omega arith

pub none_more : nat_lt 0 0 ≡ false
none_more = grind (arith, nat_tests)

some_more : (n : ℕ) → nat_lt 0 (suc n) ≡ true
some_more n = grind (arith, nat_tests)

may_zero : (w : What) → ((p : ℕ) (o : Octets) → w ≢ Bytes p o) → MayLeave w 0 0
may_zero (Ask r) other = refl
may_zero (Opened p) other = refl
may_zero (OpenFailed p f) other = refl
may_zero (SendFailed p f) other = refl
may_zero (ShortSend p) other = refl
may_zero (Datagram p o) other = refl
may_zero (RecvFailed p f) other = refl
may_zero (Wrote p n) other = refl
may_zero (WriteFailed p f) other = refl
may_zero (Bytes p o) other = absurd (other p o refl)
may_zero (ReadFailed p f) other = refl
may_zero (Ended p) other = refl
may_zero Tick other = refl

-- frames at a place, and elsewhere
pub frames_here : (p : ℕ) (fs : List Octets) → frames_at p fs p ≡ fs
frames_here p fs = ap (λ b. if b then fs else []) (itself p)
  where
    itself : (p : ℕ) → (p == p) ≡ true
    itself p = grind (arith, nat_tests)

pub frames_there : (p q : ℕ) (fs : List Octets) → (p ≡ q → ⊥) → frames_at p fs q ≡ []
frames_there p q fs ne = ap (λ b. if b then fs else []) (other p q ne)
  where
    other : (p q : ℕ) → (p ≡ q → ⊥) → (p == q) ≡ false
    other p q ne = grind (arith, nat_tests)

-- no request is at its timeout where none of the timers is due
in_time_by : (c : Conf) (d : Desk) (m : Multi) (v : View) → AreTables c nothing_under_way d m (dues v) → AreEarly d (sight v) → (k : ℕ) (e : Asker) → m.asks k ≡ Some e → v.now < e.since + stream_timeout c
in_time_by c d m v t early k e at =
    let o = t.asked k e at in
    let j = t.jobs o.0 o.1 o.2 in
    let z : Some j.ask ≡ Some e = sym j.is ∙ (ap m.asks o.3 ∙ at) in
    let same : j.ask ≡ e = cc in
    subst (λ (e : Asker). v.now < e.since + stream_timeout c) same (early (o.1).end (j.ask.since + stream_timeout c) (inl (o.0, j.end)) j.over)

module _ (c : Conf) (s : ℕ) where
  pub is_in_time : (a : Served) (d : Desk) (v : View) → a.clock ≡ v.now → a.server.by_dgram ≡ no_datagram → AreTables c nothing_under_way d a.server.by_stream (dues v) → AreEarly d (sight v) → IsInTime c a.clock a.server
  is_in_time a d v clock dgram t early = record {
    sent = λ k b p id n e q. absurd (let z : None ≡ Some b = sym (no_tryer c s a.server.by_dgram k dgram) ∙ e in cc);
    asked = λ k e at. subst (λ n. n < e.since + stream_timeout c) (sym clock) (in_time_by c d a.server.by_stream v t early k e at);
  }

  -- Frames of a connection that is no more are dropped.
  pub drops_all : (place : ℕ) (fs : List Octets) (b : Served) → b.frames ≡ fs → b.server.by_stream.conns b.place ≡ None → IsInTime c b.clock b.server → Chain (served c) s place b (still place (frames_left [] b.server.by_stream b))
  drops_all place [] b e none time = subst (λ fs. Chain (served c) s place b (still place (frames_left fs b.server.by_stream b))) e (Stays place b)
  drops_all place (f ∷ fs) b e none time =
      Goes place b (does (frames_left fs b.server.by_stream b) place Nothing) (still place (frames_left [] b.server.by_stream b)) (TakesOne f fs Nothing b.server.by_stream e time (IsDropped none))
      (drops_all place fs (frames_left fs b.server.by_stream b) refl none time)

  -- What is left once the frame that stands first was taken.
  pub record FromFrames (p most : ℕ) (u : Streams) (v : View) (b : Served) (t : Server) (w : View) : Type 0 where
    pub made : Act Served
    pub chain : Chain (served c) s v.place b made
    pub outs : w.outs ≡ v.outs ++ made.outs
    pub place : w.place ≡ made.place
    pub board : List Posted
    pub put : w.board ≡ v.board ++ board
    pub gives : Gives (names_of u) board made.posts (numbers (desk_of t))
    pub left : ℕ
    pub at_most : left ≤ most
    pub more : w.more ≡ nat_lt 0 left
    pub tied : TiedAs c s (Told p left) (record u { tables = t }) (sight w) made.state
    pub on : GoesOn v w
    pub owned : (i : ℕ) → Owns (desk_of t) i → Owns (desk_of u.tables) i ⊎ (v.timers.next ≤ i)
    pub others : (i due : ℕ) → (Owns (desk_of u.tables) i → ⊥) → dues v i ≡ Some due → dues w i ≡ Some due

  module _ (p : ℕ) (u : Streams) (v : View) (fair : IsFair v) (early : AreEarly (desk_of u.tables) (sight v)) (calm : v.more ≡ false) (server_is : u.server ≡ s) (settings_are : u.settings ≡ streams_of u.settings.stream.streaming_response_timeout c) (takes_more : u.shut ≡ false)
      (b : Served) (clock : b.clock ≡ v.now) (dgram : b.server.by_dgram ≡ no_datagram) (at_p : b.place ≡ p) (idle : IsNobodys b.pending)
      (l : Link Request) (x : Conn) (frames : ℕ → List Octets) (work : AtWork c p l x u.tables b.server.by_stream frames v (dues v)) (f : Octets) (fs : List Octets) (stand : b.frames ≡ f ∷ fs) where
    abbrev d : Desk
    d = desk_of u.tables

    abbrev m : Multi
    m = b.server.by_stream

    time : IsInTime c b.clock b.server
    time = is_in_time b d v clock dgram work.tables early

    -- the frame was taken
    module _ (b0 e0 : Bool) (t : Server) (w : View) (g : FrameDone c s p f (frames_at p fs) d m v b0 e0 t w) where
      abbrev b1 : Served
      b1 = frames_left fs g.next b

      abbrev b2 : Served
      b2 = stream_moved g.made.state b1

      takes_it : TakesFrame b.clock b.place f b.server.by_stream g.act g.next
      takes_it = subst₂ (λ n q. TakesFrame n q f b.server.by_stream g.act g.next) (sym clock) (sym at_p) g.takes

      follows : Chain (served c) s v.place b1 (lift b1 g.made)
      follows = runs_chain c s v.now v.place g.next g.made g.runs b1 clock refl

      one : Chain (served c) s v.place b (then_act (does b1 v.place g.act) (lift b1 g.made))
      one = Goes v.place b (does b1 v.place g.act) (lift b1 g.made) (TakesOne f fs g.act g.next stand time takes_it) (subst (λ q. Chain (served c) s q b1 (lift b1 g.made)) (sym g.stays) follows)

      early_now : AreEarly (desk_of t) (sight w)
      early_now = still_early d (desk_of t) v w fair early g.on g.owned

      stream_now : (gs : List Octets) → IsServer c nothing_under_way (desk_of t) g.made.state (frames_at b.place gs) (dues w) w.ticket → IsStream c s (record u { tables = t }) (sight w) (frames_left gs g.made.state b)
      stream_now gs ties = record { server = server_is; settings = settings_are; takes = takes_more; clock = clock ∙ sym g.on.now; dgram = dgram; ties = ties; order = g.stands.order }

      ties_now : IsServer c nothing_under_way (desk_of t) g.made.state (frames_at b.place fs) (dues w) w.ticket
      ties_now = subst (λ q. IsServer c nothing_under_way (desk_of t) g.made.state (frames_at q fs) (dues w) w.ticket) (sym at_p) g.stands.server

      -- the connection lives on
      stays_open : b0 ≡ nat_lt 0 (length fs) → FromFrames p (length fs) u v b t w
      stays_open more = record {
        made = then_act (does b1 v.place g.act) (lift b1 g.made);
        chain = one;
        outs = g.outs;
        place = g.place;
        board = g.board;
        put = g.put;
        gives = g.gives;
        left = length fs;
        at_most = le_refl (length fs);
        more = g.more ∙ more;
        tied = record { stream = stream_now fs ties_now; count = refl; at = inr at_p; row = inr idle; told = (early_now, nobodys_foreign c s b.pending g.made.state idle) };
        on = g.on;
        owned = g.owned;
        others = g.others;
      }

      -- it is closed, and the frames behind are dropped
      link_dropped : (q : ℕ) → LinkFits c (desk_of t) g.made.state (frames_at p fs) (dues w) w.ticket q → (g.made.state).conns p ≡ None → LinkFits c (desk_of t) g.made.state (frames_at b.place []) (dues w) w.ticket q
      link_dropped q (IsNone h i away) none = IsNone h i away
      link_dropped q (IsSome k y h link) none = IsSome k y h (subst (λ o. IsLinkAt c q (names_at (desk_of t)) k g.made.state y o (dues w) w.ticket) (frames_there p q fs (λ e. let z : None ≡ Some y = sym none ∙ (ap (g.made.state).conns e ∙ link.line.conn) in cc) ∙ sym (frames_none c s b.place q)) link)

      is_closed : (g.made.state).conns p ≡ None → b0 ≡ false → FromFrames p (length fs) u v b t w
      is_closed none more = record {
        made = then_act (then_act (does b1 v.place g.act) (lift b1 g.made)) (still g.made.place (frames_left [] g.made.state b2));
        chain = chain_then c s v.place b (then_act (does b1 v.place g.act) (lift b1 g.made)) (still g.made.place (frames_left [] g.made.state b2)) one
            (drops_all g.made.place fs b2 refl (ap (g.made.state).conns at_p ∙ none) (is_in_time b2 (desk_of t) w (clock ∙ sym g.on.now) dgram g.stands.server.tables early_now));
        outs = g.outs ∙ ap (λ (os : List Out). v.outs ++ os) (sym (append-nil (outs_of g.act ++ g.made.outs)));
        place = g.place;
        board = g.board;
        put = g.put;
        gives = subst (λ ps. Gives (names_of u) g.board ps (numbers (desk_of t))) (sym (append-nil (posts_of g.act ++ g.made.posts))) g.gives;
        left = 0;
        at_most = few (length fs);
        more = g.more ∙ (more ∙ sym none_more);
        tied = record {
          stream = stream_now [] (record { tables = g.stands.server.tables; links = λ q. link_dropped q (g.stands.server.links q) none; watched = g.stands.server.watched });
          count = refl;
          at = inl refl;
          row = inl refl;
          told = (early_now, nobodys_foreign c s b.pending g.made.state idle);
        };
        on = g.on;
        owned = g.owned;
        others = g.others;
      }

      done_so : e0 ≡ true → b0 ≡ false → FromFrames p (length fs) u v b t w
      done_so e more = is_closed (g.closed e) more

    -- whatever the connection has read
    pub reads_so : (l1 : Link Request) → l1.line ≡ l.line → l1.place ≡ p → l1.settings.response_timeout ≡ response_timeout c → (same : (q : ℕ) → (p ≡ q → ⊥) → frames_at p fs q ≡ frames q)
        → (k : Link Request) (y : View) → HasRead c p (names_at d) m x l1 (lent v) (f ∷ fs) k y → Leads (FromFrames p (length fs) u v b) (returns (one_stream for_one) p (taken (one_stream for_one) p l u.tables) v (k, y))
    reads_so l1 same_line l1_place l1_time same k y (ReadsOne _ _ _ y1 _ heard said_more place settings keeps_open keeps_none) = by (has_ended k.line.stage) refl
      where
        result : (bb : Bool) → Leads (FrameDone c s p f (frames_at p fs) d m v bb (has_ended k.line.stage)) (returns (one_stream for_one) p (taken (one_stream for_one) p l u.tables) v (k, record y1 { more = bb }))
        result bb = frame_done c s p l x u.tables m frames (frames_at p fs) same v work f k y1 bb
            (subst (λ line. HasHeard c p (names_at d) m x line (lent v) f k.line y1) same_line heard)
            (place ∙ l1_place) (ap (λ (st : StreamSettings). st.response_timeout) settings ∙ l1_time) (λ e. subst (λ o. Keeps k.octets o x.got) (sym (frames_here p fs)) (keeps_open e))

        by : (e0 : Bool) → has_ended k.line.stage ≡ e0 → Leads (FromFrames p (length fs) u v b) (returns (one_stream for_one) p (taken (one_stream for_one) p l u.tables) v (k, y))
        by true e = subst (λ (y : View). Leads (FromFrames p (length fs) u v b) (returns (one_stream for_one) p (taken (one_stream for_one) p l u.tables) v (k, y))) (sym (said_more ∙ ap (λ bb. record y1 { more = says bb fs y1 }) e))
            (leads_as (FrameDone c s p f (frames_at p fs) d m v y1.more (has_ended k.line.stage)) (FromFrames p (length fs) u v b) (returns (one_stream for_one) p (taken (one_stream for_one) p l u.tables) v (k, record y1 { more = y1.more }))
            (result y1.more) (λ t w g. done_so y1.more (has_ended k.line.stage) t w g e (heard.more ∙ calm)))
        by false e = subst (λ (y : View). Leads (FromFrames p (length fs) u v b) (returns (one_stream for_one) p (taken (one_stream for_one) p l u.tables) v (k, y))) (sym (said_more ∙ (ap (λ bb. record y1 { more = says bb fs y1 }) e ∙ ap (λ bb. record y1 { more = bb }) (said_so fs))))
            (leads_as (FrameDone c s p f (frames_at p fs) d m v (nat_lt 0 (length fs)) (has_ended k.line.stage)) (FromFrames p (length fs) u v b) (returns (one_stream for_one) p (taken (one_stream for_one) p l u.tables) v (k, record y1 { more = nat_lt 0 (length fs) }))
            (result (nat_lt 0 (length fs))) (λ t w g. stays_open (nat_lt 0 (length fs)) (has_ended k.line.stage) t w g refl))
          where
            said_so : (fs : List Octets) → says false fs y1 ≡ nat_lt 0 (length fs)
            said_so [] = heard.more ∙ (calm ∙ sym none_more)
            said_so (f ∷ fs) = sym (some_more (length fs))

  -- An event is told

  module _ (u : Streams) (v : View) (a : Served) (w : What) (t : IsUntold c s w u (sight v) a) (fair : IsFair v) (early : AreEarly (desk_of u.tables) (sight v)) (calm : v.more ≡ false) where
    abbrev ud : Desk
    ud = desk_of u.tables

    abbrev um : Multi
    um = a.server.by_stream

    abbrev no_frames : ℕ → List Octets
    no_frames = frames_at a.place []

    abbrev Goal : Streams → View → Type 0
    Goal x y = Tells (served c) (TiedAs c s) names_of owns (Chain (served c) s v.place a) u v (MayLeave w) x y

    pub stands0 : Stands c nothing_under_way ud u.tables um no_frames v
    stands0 = subst (λ fs. Stands c nothing_under_way ud u.tables um (frames_at a.place fs) v) t.frames (stands_of c s u v a t.stream fair)

    -- it is of nothing here
    pub passes_so : (p : ℕ) → MayLeave w p 0 → IsForeign w um → Goal u v
    passes_so p may foreign = record {
      at = p;
      left = 0;
      may_be = may;
      more = calm ∙ sym none_more;
      leaves = nothing_done (served c) s (TiedAs c s) names_of owns u v a (Told p 0) fair (record { stream = t.stream; count = ap length t.frames; at = inl refl; row = inl refl; told = (early, subst (λ w. IsForeign w um) (sym t.pending) foreign) });
    }

    module _ (other : (p : ℕ) (o : Octets) → w ≢ Bytes p o) where
      taken_leaves : (r : Server) (y : View) (x : multi.Act) (n : Multi) → Takes c v.now um w x n → posts_of x ≡ [] → place_after x v.place ≡ v.place → Went c s no_frames nothing_under_way ud n (said v x) r y → Goal (record u { tables = r }) y
      taken_leaves r y x n takes posts place g = record {
        at = 0;
        left = 0;
        may_be = may_zero w other;
        more = g.more ∙ (calm ∙ sym none_more);
        leaves = record {
          made = then_act (does (has_taken_it (record a.server { by_stream = n }) a) v.place x) (lift (has_taken_it (record a.server { by_stream = n }) a) g.made);
          may = Goes v.place a (does (has_taken_it (record a.server { by_stream = n }) a) v.place x) (lift (has_taken_it (record a.server { by_stream = n }) a) g.made)
              (TellsStreams x n t.taken (λ p o e. other p o (sym t.pending ∙ e)) (subst₂ (λ k e. Takes c k um e x n) (sym t.stream.clock) (sym t.pending) takes) (ignored c s a.pending a.server.by_dgram t.stream.dgram))
              (subst (λ q. Chain (served c) s q (has_taken_it (record a.server { by_stream = n }) a) (lift (has_taken_it (record a.server { by_stream = n }) a) g.made)) (sym place)
              (runs_chain c s v.now v.place n g.made g.runs (has_taken_it (record a.server { by_stream = n }) a) t.stream.clock refl));
          outs = g.outs ∙ append_assoc v.outs (outs_of x) g.made.outs;
          place = g.place;
          board = [];
          put = g.board ∙ sym (append-nil v.board);
          gives = gives_none (names_of u) (numbers (desk_of r)) (posts_of x ++ g.made.posts) (ap₂ (λ (b c : List Post). b ++ c) posts g.posts) g.named;
          tied = record {
            stream = record { server = t.stream.server; settings = t.stream.settings; takes = t.stream.takes; clock = t.stream.clock ∙ sym g.on.now; dgram = t.stream.dgram; ties = g.stands.server; order = g.stands.order };
            count = refl;
            at = inl refl;
            row = inl refl;
            told = (still_early ud (desk_of r) v y fair early on g.owned, nobodys_foreign c s Tick g.made.state tt);
          };
          goes_on = on;
          owned = g.owned;
          others = g.others;
        };
      }
        where
          on : GoesOn v y
          on = record { fair = g.on.fair; now = g.on.now; timer = g.on.timer; ticket = g.on.ticket; place = g.on.place; later = g.on.later }

      told_leaves : (r : Server) (y : View) → ToldOf c s no_frames w u.tables um v r y → Goal (record u { tables = r }) y
      told_leaves r y (Passes foreign same_tables same_view) = subst (λ (y : View). Goal (record u { tables = r }) y) (sym same_view) (subst (λ (r : Server). Goal (record u { tables = r }) v) (sym same_tables) (passes_so 0 (may_zero w other) foreign))
      told_leaves r y (Takes_it x n takes posts place g) = taken_leaves r y x n takes posts place g

      pub tells_one : Leads Goal (by_streams.step (told w) u v)
      tells_one = leads_whole (ToldOf c s no_frames w u.tables um v) Goal u (tells (one_stream for_one) u.server u.settings w u.tables v)
          (subst (λ n. Leads (ToldOf c s no_frames w u.tables um v) (tells (one_stream for_one) n u.settings w u.tables v)) (sym t.stream.server)
          (subst (λ (set : Settings). Leads (ToldOf c s no_frames w u.tables um v) (tells (one_stream for_one) s set w u.tables v)) (sym t.stream.settings)
          (told_so c s no_frames u.tables um v stands0 t.quiet (λ q. frames_none c s a.place q) u.settings.stream.streaming_response_timeout w other)))
          told_leaves
