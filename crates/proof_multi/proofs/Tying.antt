-- The calls of reconnection beside moves of the part: a timer fires, a request is given up or taken on.
use Rattle.std.proofs.Common.{◌≡◌, ℕ, ◌<◌, ◌≤◌, ◌⊎◌, inl, inr, true, false, ◌||◌, is_some, [], ◌∷◌, Option, Some, None, refl, sym, ap₂, subst, ◌∙◌, append-nil, append_assoc}
use Rattle.client_request.specs.Carries.{IsOfOctets}
use Rattle.client_request.specs.Numbered.{entry_at}
use Rattle.client_request.specs.Request.{Request}
use Rattle.client_request.specs.Requests.{for_one}
use Rattle.client_request.specs.Timers.{cancelled}
use Rattle.client_request.specs.View.{View, due_timer, asks}
use Rattle.client_request.specs.declared.event.Out.TheVariants.{Start}
use Rattle.client_request.specs.declared.event.Via.TheVariants.{Stream}
use Rattle.client_request.specs.declared.event.What.{What}
use Rattle.client_stream.specs.Plain.{Asked}
use Rattle.client_multi.specs.Links.{one_stream}
use Rattle.client_multi.specs.MultiStream.{due, drops, with_job, drops_job, takes}
use Rattle.client_settings.specs.MultiStream.{Settings}
use Rattle.client_multi.specs.declared.multi_stream.job.Job.{Job}
use Rattle.right_trace.specs.Orderly.{use_at}
use Rattle.right_trace.specs.Trace.{Conf, ByStreams}
use Rattle.proof_right.specs.machine.Dgrams.{Tryer}
use Rattle.proof_right.specs.machine.Served.{Served, Starts, Cancels, IsHanded, IsGivenUp, served, does, holds}
use Rattle.proof_right.specs.machine.Server as server
use Rattle.proof_right.specs.machine.Streams.{Asker, Multi, Nothing, Puts, drop}
use Rattle.proof_parts.specs.Chains.{Chain, Stays, Begins, Calls, still, then_act}
use Rattle.proof_parts.specs.Connections.{dues}
use Rattle.proof_parts.specs.PartTie.{Untold, Leads, Leaves, GoesOn}
use Rattle.proof_parts.specs.Sights.{sight, IsFair, due_of}
use Rattle.proof_parts.proofs.GoingOn.{goes_then, goes_without, dues_without, none_next}
use Rattle.proof_parts.proofs.Keys.{with_there}
use Rattle.right_trace.specs.Updates.{with_at}
use Rattle.proof_multi.specs.Servers.{Desk, Server, desk_of, numbers, nothing_under_way, Owns, Stands}
use Rattle.proof_multi.specs.Tied.{Streams, by_streams, IsStream, IsUntold, AreEarly, TiedAs, frames_at, names_of, owns}
use Rattle.proof_multi.proofs.Desks.{number_of}
use Rattle.proof_multi.proofs.Fields.{no_tryer}
use Rattle.proof_multi.proofs.Firing.{due_so}
use Rattle.proof_multi.proofs.Leaving.{Dropped, leaves_so}
use Rattle.proof_multi.proofs.Sending.{Sent, sends_so, taken_in}
use Rattle.proof_multi.proofs.Serving.{stream_moved, lift, runs_chain, Gone, gives_none, gone_leaves, leads_whole, stream_still}
use Rattle.right_settings.specs.Given.{streams_of}

-- timers that are its own after a call that began early are not due
pub still_early : (d e : Desk) (v w : View) → IsFair v → AreEarly d (sight v) → GoesOn v w → ((i : ℕ) → Owns e i → Owns d i ⊎ (v.timers.next ≤ i)) → AreEarly e (sight w)
still_early d e v w fair early on owned i due o set = subst (λ n. n < due) (sym on.now) (elim (on.later i due set) [
  | inl was ↦ elim (owned i o) [ inl q ↦ early i due q was | inr le ↦ absurd (let z : None ≡ Some due = sym (none_next v i fair le) ∙ was in cc) ]
  | inr new ↦ new.0
])

pub stands_of : (c : Conf) (s : ℕ) (u : Streams) (v : View) (a : Served) → IsStream c s u (sight v) a → IsFair v → Stands c nothing_under_way (desk_of u.tables) u.tables a.server.by_stream (frames_at a.place a.frames) v
stands_of c s u v a i fair = record { server = i.ties; order = i.order; fair = fair }

module _ (c : Conf) (s : ℕ) where
  -- A timer

  pub timer_fires : (u : Streams) (v : View) (a : Served) (w : What) (i at : ℕ) → IsUntold c s w u (sight v) a → IsFair v → due_of i v.timers.set ≡ Some at → at ≤ v.now
      → Leads (Leaves (served c) (TiedAs c s) names_of owns (Chain (served c) s v.place a) (names_of u) u (record v { timers = cancelled i v.timers }) (Untold w)) (by_streams.step (due_timer i) u (record v { timers = cancelled i v.timers }))
  timer_fires u v a w i at t fair set late = leads_whole (Gone c s (frames_at a.place a.frames) (numbers (desk_of u.tables)) (desk_of u.tables) a.server.by_stream (record v { timers = cancelled i v.timers }))
      (Leaves (served c) (TiedAs c s) names_of owns (Chain (served c) s v.place a) (names_of u) u (record v { timers = cancelled i v.timers }) (Untold w)) u (due (one_stream for_one) u.server i u.tables (record v { timers = cancelled i v.timers }))
      (subst (λ n. Leads (Gone c s (frames_at a.place a.frames) (numbers (desk_of u.tables)) (desk_of u.tables) a.server.by_stream (record v { timers = cancelled i v.timers })) (due (one_stream for_one) n i u.tables (record v { timers = cancelled i v.timers }))) (sym t.stream.server)
      (due_so c s (frames_at a.place a.frames) u.tables a.server.by_stream v (stands_of c s u v a t.stream fair) i at set late (λ k e. t.quiet)))
      (λ r z g. gone_leaves c s (frames_at a.place a.frames) (names_of u) u a.server.by_stream (record v { timers = cancelled i v.timers }) a (Untold w) (Chain (served c) s v.place a) r z g (runs_chain c s v.now v.place a.server.by_stream g.made g.runs a t.stream.clock refl)
      (record { stream = stream_still c s u (sight v) a r g.made.state z t.stream g.on.now g.stands; pending = t.pending; taken = t.taken; frames = t.frames; quiet = g.quiet t.quiet }))

  -- A request is given up

  module _ (u : Streams) (v : View) (a : Served) (row : What) (r : Asked) (k : ℕ) (tied : IsUntold c s row u (sight v) a) (fair : IsFair v) (named : names_of u r.ticket ≡ Some k) where
    st : IsStream c s u (sight v) a
    st = tied.stream

    has : (job : Job Request) × (entry_at r.ticket u.tables.jobs ≡ Some job) × (job.number ≡ k)
    has = number_of (entry_at r.ticket u.tables.jobs) k named

    abbrev job : Job Request
    job = has.0

    abbrev d : Desk
    d = desk_of u.tables

    abbrev m : Multi
    m = a.server.by_stream

    abbrev end_v : View
    end_v = record v { timers = cancelled job.end v.timers }

    abbrev after : Served
    after = stream_moved (drop k m) a

    owns_end : Owns d job.end
    owns_end = inl (r.ticket, (st.ties.tables.jobs r.ticket job has.1).end)

    abbrev D : Server → View → Type 0
    D t w = Dropped c r.ticket job.number (frames_at a.place a.frames) d m end_v t w

    on_all : (w : View) → GoesOn end_v w → GoesOn v w
    on_all w on = goes_then v end_v w (goes_without v job.end fair) on

    stands_left : (t : Server) (w : View) → D t w → Stands c nothing_under_way (desk_of t) t (drop k m) (frames_at a.place a.frames) w
    stands_left t w g = subst (λ k. Stands c nothing_under_way (desk_of t) t (drop k m) (frames_at a.place a.frames) w) has.2 g.stands

    again : (t : Server) (w : View) → D t w → IsUntold c s row (record u { tables = t }) (sight w) after
    again t w g = record { stream = stream_still c s u (sight v) a t (drop k m) w tied.stream (on_all w g.on).now (stands_left t w g); pending = tied.pending; taken = tied.taken; frames = tied.frames; quiet = tied.quiet }

    pub gives_up_one : Leads (Leaves (served c) (TiedAs c s) names_of owns (λ d. Begins (Cancels s v.place k a) (Chain (served c) s) d × (d.posts ≡ [])) (with_at r.ticket None (names_of u)) u v (Untold row)) (by_streams.cancel r u v)
    gives_up_one = leads_whole D (Leaves (served c) (TiedAs c s) names_of owns (λ d. Begins (Cancels s v.place k a) (Chain (served c) s) d × (d.posts ≡ [])) (with_at r.ticket None (names_of u)) u v (Untold row)) u (drops (one_stream for_one) r.ticket u.tables v)
        (subst (λ (o : Option (Job Request)). Leads D (with_job (drops_job (one_stream for_one)) r.ticket u.tables v o)) (sym has.1)
        (leaves_so c s (frames_at a.place a.frames) u.tables m v (stands_of c s u v a st fair) r.ticket job has.1))
        (λ t w g. record {
          made = then_act (does after v.place Nothing) (still v.place after);
          may = (Calls (does after v.place Nothing) (still v.place after) (IsGivenUp Nothing (record a.server { by_stream = drop k m }) (server.AtStreams (no_tryer c s a.server.by_dgram k st.dgram))) (Stays v.place after), refl);
          outs = g.outs ∙ sym (append-nil v.outs);
          place = g.place;
          board = [];
          put = g.board ∙ sym (append-nil v.board);
          gives = g.named;
          tied = again t w g;
          goes_on = on_all w g.on;
          owned = λ i o. inl (g.owned i o);
          others = λ i due free set. g.others i due free (dues_without v job.end i fair ∙ (with_there job.end None (dues v) i (λ e. free (subst (Owns d) e owns_end)) ∙ set));
        })

  -- A request is taken on

  -- whatever was put out before
  module _ (u : Streams) (v : View) (a : Served) (w : What) (r : Request) (t : IsUntold c s w u (sight v) a) (fair : IsFair v) (octets : IsOfOctets r) (free : holds a v.request ≡ false) where
    abbrev sd : Desk
    sd = desk_of u.tables

    abbrev sm : Multi
    sm = a.server.by_stream

    pub no_ask : sm.asks v.request ≡ None
    no_ask = by (sm.asks v.request) refl
      where
        by : (o : Option Asker) → sm.asks v.request ≡ o → sm.asks v.request ≡ None
        by None e = e
        by (Some b) e = absurd (let z : true ≡ false = sym (ap₂ (λ (b : Option Tryer) (c : Option Asker). is_some b || is_some c) (no_tryer c s a.server.by_dgram v.request t.stream.dgram) e) ∙ free in cc)

    -- what follows of it
    sent_so : (Q : Streams → View → Type 0) → ((x : Server) (y : View) → Sent c s (frames_at a.place a.frames) r sd sm v x y → Q (record u { tables = x }) y) → Leads Q (by_streams.send r u v)
    sent_so Q f = leads_whole (Sent c s (frames_at a.place a.frames) r sd sm v) Q u (takes (one_stream for_one) u.server u.settings u.shut r u.tables v)
        (subst (λ n. Leads (Sent c s (frames_at a.place a.frames) r sd sm v) (takes (one_stream for_one) n u.settings u.shut r u.tables v)) (sym t.stream.server)
        (subst (λ (set : Settings). Leads (Sent c s (frames_at a.place a.frames) r sd sm v) (takes (one_stream for_one) s set u.shut r u.tables v)) (sym t.stream.settings)
        (subst (λ b. Leads (Sent c s (frames_at a.place a.frames) r sd sm v) (takes (one_stream for_one) s (streams_of u.settings.stream.streaming_response_timeout c) b r u.tables v)) (sym t.stream.takes)
        (sends_so c s (frames_at a.place a.frames) u.tables sm v (stands_of c s u v a t.stream fair) t.quiet r octets no_ask u.settings.stream.streaming_response_timeout))))
        f

    -- nothing is posted, and no frame is told of
    pub posts_none : Leads (λ x y. (y.board ≡ v.board) × (y.more ≡ v.more)) (by_streams.send r u v)
    posts_none = sent_so (λ x y. (y.board ≡ v.board) × (y.more ≡ v.more)) (λ x y g. (g.board, g.more))

  module _ (used : use_at s c.servers ≡ Some ByStreams) (u : Streams) (v : View) (a : Served) (w : What) (r : Request) (t : IsUntold c s w u (sight v) a) (fair : IsFair v) (octets : IsOfOctets r) (free : holds a v.request ≡ false) where
    abbrev tm : Multi
    tm = a.server.by_stream

    abbrev started : View
    started = asks (Start v.request s Stream) v

    abbrev L : Streams → View → Type 0
    L x y = Leaves (served c) (TiedAs c s) names_of owns (Begins (Starts c s v.place v.request r a) (Chain (served c) s)) (with_at v.ticket (Some v.request) (names_of u)) u v (Untold w) x y

    abbrev given : Served
    given = stream_moved (taken_in v.request v.now r tm) a

    fair_too : IsFair started
    fair_too = record { order = fair.order; words = fair.words }

    starts : Starts c s v.place v.request r a (does given v.place (Puts (Start v.request s Stream)))
    starts = subst (λ n. Starts c s v.place v.request r a (does (stream_moved (taken_in v.request n r tm) a) v.place (Puts (Start v.request s Stream)))) t.stream.clock
        (IsHanded ByStreams (Puts (Start v.request s Stream)) (record a.server { by_stream = taken_in v.request a.clock r tm }) used (server.ToStreams refl (no_ask u v a w r t fair octets free)))

    sent_leaves : (x : Server) (y : View) → Sent c s (frames_at a.place a.frames) r (desk_of u.tables) tm started x y → L (record u { tables = x }) y
    sent_leaves x y g = record {
      made = then_act (does given v.place (Puts (Start v.request s Stream))) (lift given g.made);
      may = Calls (does given v.place (Puts (Start v.request s Stream))) (lift given g.made) starts (runs_chain c s v.now v.place (taken_in v.request v.now r tm) g.made g.runs given t.stream.clock refl);
      outs = g.outs ∙ append_assoc v.outs (Start v.request s Stream ∷ []) g.made.outs;
      place = g.place;
      board = [];
      put = g.board ∙ sym (append-nil v.board);
      gives = gives_none (with_at v.ticket (Some v.request) (names_of u)) (numbers (desk_of x)) g.made.posts g.posts g.named;
      tied = record { stream = stream_still c s u (sight v) a x g.made.state y t.stream g.on.now g.stands; pending = t.pending; taken = t.taken; frames = t.frames; quiet = g.quiet t.quiet };
      goes_on = record { fair = g.on.fair; now = g.on.now; timer = g.on.timer; ticket = g.on.ticket; place = g.on.place; later = g.on.later };
      owned = g.owned;
      others = g.others;
    }

    pub takes_on_one : Leads L (by_streams.send r u started)
    takes_on_one = sent_so u started a w r t fair_too octets free L sent_leaves

    -- a ticket was drawn, and no frame is told of
    pub draws_one : Leads (λ x y. (v.ticket < y.ticket) × (y.more ≡ v.more)) (by_streams.send r u started)
    draws_one = sent_so u started a w r t fair_too octets free (λ x y. (v.ticket < y.ticket) × (y.more ≡ v.more)) (λ x y g. (g.drawn, g.more))
