-- A request of a fallback is given up, where it waits.
use Rattle.std.proofs.Common.{◌≡◌, ℕ, ◌<◌, ◌≤◌, inl, inr, true, false, is_some, [], Option, Some, None, refl, sym, ap, subst, ◌∙◌, arith}
use Rattle.std.specs.Prelude.{option_and_then}
use Rattle.client_request.specs.Numbered.{frees, entry_at}
use Rattle.client_request.specs.Request.{Request}
use Rattle.client_request.specs.Requests.{for_one}
use Rattle.client_request.specs.View.{View, Transport}
use Rattle.client_dgram.specs.Plain as dgram
use Rattle.client_stream.specs.Plain as stream
use Rattle.client_multi.specs.Fallback as fallback
use Rattle.client_multi.specs.Fallback.{Tables, onto, with_tables, without, without_job, drops_at, with_parts, settles_dgram}
use Rattle.client_multi.specs.declared.dgram_stream.job.Job.{Job}
use Rattle.client_multi.specs.declared.dgram_stream.job.Job.TheVariants.{Dgram, Stream}
use Rattle.client_request.specs.declared.event.What.{What}
use Rattle.right_trace.specs.Trace.{Conf}
use Rattle.proof_right.specs.machine.Part.{Act}
use Rattle.right_trace.specs.Updates.{with_at}
use Rattle.proof_right.specs.machine.Server as server
use Rattle.proof_right.specs.machine.Served as machine
use Rattle.proof_right.specs.machine.Dgrams.{Tryer, Dgrams, no_datagram}
use Rattle.proof_right.specs.machine.Served.{Served, served, Cancels}
use Rattle.proof_parts.specs.Chains.{Chain, Begins, Calls, then_act, Gives}
use Rattle.proof_parts.specs.PartTie.{Phase, IsOpen, Leads, Leaves}
use Rattle.proof_parts.specs.Sights.{Sight, sight, IsFair}
use Rattle.proof_parts.proofs.Keys.{was_there}
use Rattle.proof_dgram.specs.AtServer.{with_dgrams, at_server}
use Rattle.proof_dgram.specs.Calls as calls
use Rattle.proof_dgram.specs.Calls.{HasDropped}
use Rattle.proof_dgram.specs.Halves.{beside}
use Rattle.proof_dgram.specs.Placed.{StayAt}
use Rattle.proof_dgram.specs.Slots.{names_of}
use Rattle.proof_dgram.specs.Steps.{Steps}
use Rattle.proof_dgram.specs.Waiting.{WaitsBelow, AtDgrams, AtStreams, AreWaiting, number_in, numbers_of, ticket_at}
use Rattle.proof_dgram.specs.Fallback.{AreStreams, pending_in, IsFallback, Both, names_in, OwnsEither}
use Rattle.proof_dgram.proofs.Admitting.{tables_change}
use Rattle.proof_dgram.proofs.AtServer.{servers_move}
use Rattle.proof_dgram.proofs.BesideDgrams.{dgrams_leave}
use Rattle.proof_dgram.proofs.BesideStreams.{leads_both, streams_leave}
use Rattle.proof_dgram.proofs.CallsAreMoves.{calls_are_moves}
use Rattle.proof_dgram.proofs.Halves.{streams_move}
use Rattle.proof_dgram.proofs.Handing.{gives_as, streams_less, numbers_less}
use Rattle.proof_dgram.proofs.Known.{slots_are_known}
use Rattle.proof_dgram.proofs.Passing.{still_over, over_beside, event_of}
use Rattle.proof_dgram.proofs.Placed.{places_stay, stay_then}
use Rattle.proof_dgram.proofs.Settling.{AllWhole}
use Rattle.proof_dgram.proofs.Sitting.{sitting_beside}
use Rattle.proof_dgram.proofs.Staying.{asks_then, openings_are_new, requests_stay}

-- a call that gives a request up changes nothing of the row, nor which place opens
record Stays (s place : ℕ) (u : Served) (e : Act Served) : Type 0 where
  pub frames : e.state.frames ≡ u.frames
  pub opening : e.state.server.by_stream.opening ≡ u.server.by_stream.opening
  pub next : e.place ≡ place

stays : (s place k : ℕ) (u : Served) (e : Act Served) → Cancels s place k u e → Stays s place u e
stays s place k u _ (machine.IsGivenUp x v it) = by x v it
  where
    by : (x : _) (v : server.Server) → server.IsGivenUp s u.clock k u.server x v → Stays s place u (machine.does (machine.has_moved v u) place x)
    by _ _ (server.Waits a held stage) = record { frames = refl; opening = refl; next = refl }
    by _ _ (server.HasPlace a p held stage) = record { frames = refl; opening = refl; next = refl }
    by _ _ (server.AtStreams none) = record { frames = refl; opening = refl; next = refl }

-- without what holds besides
pub leads_first : {U : Type 0} (P Q : U → View → Type 0) (o : Option (U × View)) → Leads (λ g x. P g x × Q g x) o → Leads P o
leads_first P Q None l = tt
leads_first P Q (Some x) l = l.0

module _ (b c : Conf) (same_transports : b.transports ≡ c.transports) (s : ℕ) {S : Type 0} (t : Transport Request S stream.Asked) (first : S) (Tied : Phase → S → Sight → Served → Type 0) (names : S → ℕ → Option ℕ) (Owns : S → (timer : ℕ) → Type 0) (y : AreStreams b s t first Tied names Owns) where
  abbrev Two : Type 0
  Two = Both c Tied names Owns s

  abbrev Falls : Phase → Two → Sight → Served → Type 0
  Falls phase f x a = IsFallback c Tied names Owns s phase f x a

  abbrev Left : (Act Served → Type 0) → (ℕ → Option ℕ) → Two → View → Phase → Two → View → Type 0
  Left Done named f v phase = Leaves (served c) (IsFallback c Tied names Owns s) (names_in c Tied names Owns s) (OwnsEither c Tied names Owns s) Done named f v phase

  -- what is left of other tables, and is named otherwise, is left as well
  abbrev pub with_others : Tables Request dgram.Asked stream.Asked → Two → Two
  with_others ts f = record f { parts = with_tables ts f.parts }

  pub renamed : (Done : Act Served → Type 0) (m n : ℕ → Option ℕ) (ts : Tables Request dgram.Asked stream.Asked) (f : Two) (v : View) (phase : Phase) (g : Two) (x : View) → ((i : ℕ) → m i ≡ n i) → Left Done m (with_others ts f) v phase g x → Left Done n f v phase g x
  renamed Done m n ts f v phase g x same l = record { made = l.made; may = l.may; outs = l.outs; place = l.place; board = l.board; put = l.put; gives = gives_as m n (names_in c Tied names Owns s g) l.board l.made.posts same l.gives; tied = l.tied; goes_on = l.goes_on; owned = l.owned; others = l.others }

  pub leads_renamed : (Done : Act Served → Type 0) (m n : ℕ → Option ℕ) (ts : Tables Request dgram.Asked stream.Asked) (f : Two) (v : View) (phase : Phase) (o : Option (Two × View)) → ((i : ℕ) → m i ≡ n i) → Leads (Left Done m (with_others ts f) v phase) o → Leads (Left Done n f v phase) o
  leads_renamed Done m n ts f v phase None same l = tt
  leads_renamed Done m n ts f v phase (Some x) same l = renamed Done m n ts f v phase x.0 x.1 same l

  -- what holds of what the datagrams leave holds of what is left
  pub leads_dgrams : (f : Two) (v : View) (Q : dgram.Tables Request → View → Type 0) (R : Two → View → Type 0) (o : Option (dgram.Tables Request × View)) → calls.Leads Q o → ((z : dgram.Tables Request) (w : View) → Q z w → Leads R (with_parts f (fallback.collects f.server t w.board [] (record f.parts { dgram = record f.parts.dgram { tables = z } }) (onto v.board w))))
      → Leads R (with_parts f (option_and_then (settles_dgram f.server (dgram.transport for_one) t f.parts v) (dgram.with_tables f.parts.dgram o)))
  leads_dgrams f v Q R None q k = tt
  leads_dgrams f v Q R (Some x) q k = k x.0 x.1 q

  module _ (phase : Phase) (f : Two) (v : View) (a : Served) (i k : ℕ) (may : IsOpen phase v.place) (g : Falls phase f (sight v) a) (fair : IsFair v) (named : names_in c Tied names Owns s f i ≡ Some k) where
    abbrev Done : Act Served → Type 0
    Done e = Begins (Cancels s v.place k a) (Chain (served c) s) e × (e.posts ≡ [])

    abbrev d : Dgrams
    d = a.server.by_dgram

    abbrev alone : Served
    alone = with_dgrams no_datagram a

    fair_on : IsFair (onto [] v)
    fair_on = record { order = fair.order; words = fair.words }

    abbrev fewer : Two
    fewer = record f { parts = with_tables (without i f.parts.tables) f.parts }

    clock : a.clock ≡ v.now
    clock = y.clock phase f.parts.stream (sight v) alone g.streams

    abbrev Goal : Option (Two × View) → Type 0
    Goal = Leads (Left Done (with_at i None (names_in c Tied names Owns s f)) f v phase)

    -- the event that was not taken
    abbrev event : (w : What) × (pending_in phase ≡ Some w)
    event = event_of phase v.place may

    -- It waits at the datagrams.
    module _ (lower : ℕ) (r : Request) (z : dgram.Asked) (is : entry_at i f.parts.tables.jobs ≡ Some (Dgram lower k r z)) (at : z.ticket ≡ lower) (below : names_of f.parts.dgram.tables lower ≡ Some k) where
      abbrev less : AreWaiting ticket_at (without i f.parts.tables) d (with_at lower None (names_of f.parts.dgram.tables)) (names f.parts.stream) v.ticket × ((u : ℕ) → numbers_of (without i f.parts.tables) (names f.parts.stream) u ≡ with_at i None (numbers_of f.parts.tables (names f.parts.stream)) u)
      less = tables_change.less f.parts.tables d (names_of f.parts.dgram.tables) (names f.parts.stream) v.ticket i lower k r z g.waiting is

      dgram_done : (e m : Act Dgrams) → calls.LetsGo k v.place d e → Steps c s v.now e.place e.state m → (then_act e m).posts ≡ [] → Done (record { state = with_dgrams m.state a; place = m.place; outs = (then_act e m).outs; posts = (then_act e m).posts })
      dgram_done e m lets steps none = (Calls (at_server a with_dgrams e) (at_server (with_dgrams e.state a) with_dgrams m) (servers_move.lets_go s v.place k a e lets) (servers_move.steps c s e.place (with_dgrams e.state a) m (subst (λ n. Steps c s n e.place e.state m) (sym clock) steps)), none)

      stay : (e m : Act Dgrams) → calls.LetsGo k v.place d e → Steps c s v.now e.place e.state m → StayAt v.place d m.state
      stay e m lets steps = (let l = (places_stay c).lets_go v.place k v.place d e lets in stay_then v.place d e.state m.state l.1 ((places_stay c).steps s v.now v.place e.place e.state m l.0 steps))

      dropped : (z : dgram.Tables Request) (x : View) → HasDropped c s lower k f.parts.dgram.tables d (onto [] v) z x → Leads (Left Done (numbers_of (without i f.parts.tables) (names f.parts.stream)) fewer v phase) (with_parts fewer (fallback.collects fewer.server t x.board [] (record fewer.parts { dgram = record f.parts.dgram { tables = z } }) (onto v.board x)))
      dropped z x h = leads_first _ _ _
          (dgrams_leave b c same_transports s t first Tied names Owns y fewer v d d fair g.server g.dgram_server g.settings (then_act h.first h.made) z x h.leaves g.timers
          (asks_then d h.first.state h.made.state ((requests_stay c).lets_go k v.place d h.first h.lets) ((requests_stay c).steps s v.now h.first.place h.first.state h.made h.steps)) phase phase a g.streams g.places g.apart
          v.ticket (with_at lower None (names_of f.parts.dgram.tables)) less.0 h.leaves.after.ticket
          (record { board = []; put = h.board; gives = subst (λ xs. Gives (with_at lower None (names_of f.parts.dgram.tables)) [] xs (names_of z)) (sym h.nothing) h.names })
          (subst AllWhole (sym h.nothing) tt) (still_over c phase v.place a h.made.state may (stay h.first h.made h.lets h.steps) g.over) (λ told. g.quiet told) Done (dgram_done h.first h.made h.lets h.steps h.nothing))

      pub dgram_up : Goal (with_parts f (drops_at f.server (dgram.transport for_one) t fewer.parts v (Some (Dgram lower k r z))))
      dgram_up = leads_renamed Done (numbers_of (without i f.parts.tables) (names f.parts.stream)) (with_at i None (names_in c Tied names Owns s f)) (without i f.parts.tables) f v phase _ less.1
          (leads_dgrams fewer v (HasDropped c s lower k f.parts.dgram.tables d (onto [] v)) (Left Done (numbers_of (without i f.parts.tables) (names f.parts.stream)) fewer v phase) (dgram.drops f.parts.dgram.server z.ticket f.parts.dgram.tables (onto [] v))
          (subst (λ n. calls.Leads (HasDropped c s lower k f.parts.dgram.tables d (onto [] v)) (dgram.drops n z.ticket f.parts.dgram.tables (onto [] v))) (sym g.dgram_server)
          (subst (λ n. calls.Leads (HasDropped c s lower k f.parts.dgram.tables d (onto [] v)) (dgram.drops s n f.parts.dgram.tables (onto [] v))) (sym at)
          ((calls_are_moves c).cancels s f.parts.dgram.tables d (onto [] v) lower k g.slots fair_on below))) dropped)

    -- It waits at the streams.
    module _ (lower : ℕ) (z : stream.Asked) (is : entry_at i f.parts.tables.jobs ≡ Some (Stream lower z)) (at : ticket_at z ≡ lower) (below : names f.parts.stream lower ≡ Some k) where
      abbrev left : ℕ → Option ℕ
      left = with_at lower None (names f.parts.stream)

      it_is : without i f.parts.tables ≡ record { jobs = frees i f.parts.tables.jobs; tickets = frees lower f.parts.tables.tickets }
      it_is = ap (λ o. without_job o (record f.parts.tables { jobs = frees i f.parts.tables.jobs })) is

      waits : AreWaiting ticket_at (without i f.parts.tables) d (names_of f.parts.dgram.tables) left v.ticket
      waits = subst (λ ts. AreWaiting ticket_at ts d (names_of f.parts.dgram.tables) left v.ticket) (sym it_is) (streams_less ticket_at f.parts.tables d (names_of f.parts.dgram.tables) (names f.parts.stream) v.ticket g.waiting i lower k z is below)

      numbers : (u : ℕ) → numbers_of (without i f.parts.tables) left u ≡ with_at i None (numbers_of f.parts.tables (names f.parts.stream)) u
      numbers = subst (λ ts. (u : ℕ) → numbers_of ts left u ≡ with_at i None (numbers_of f.parts.tables (names f.parts.stream)) u) (sym it_is) (numbers_less ticket_at f.parts.tables d (names_of f.parts.dgram.tables) (names f.parts.stream) v.ticket g.waiting i lower k z is below)

      asked : (j n : ℕ) → names f.parts.stream j ≡ Some n → is_some (a.server.by_stream.asks n) ≡ true
      asked j n e = (y.tie.named phase f.parts.stream (sight v) alone j n g.streams e).1

      free : d.held k ≡ None
      free = by (d.held k) refl
        where
          by : (o : Option Tryer) → d.held k ≡ o → d.held k ≡ None
          by None e = e
          by (Some a) e = absurd (g.apart k (ap is_some e) (asked lower k below))

      below_all : (p n : ℕ) → p < n → n ≤ p → ⊥
      below_all p n lt le = omega arith

      -- What the streams do beside the datagrams.
      record Done_so (e : Act Served) : Type 0 where
        pub begun : Begins (Cancels s v.place k a) (Chain (served c) s) (beside d e)
        pub new : (p n : ℕ) → d.at p ≡ Some n → e.state.server.by_stream.opening ≡ Some p → ⊥

      stream_done : (e : Act Served) → Begins (Cancels s v.place k alone) (Chain (served b) s) e → e.state.taken ≡ false → Done_so e
      stream_done _ (Calls e m call chain) untaken =
          let o = streams_move.cancels s v.place k alone d e refl free call in
          let st = stays s v.place k alone e call in
          let more = sitting_beside c b same_transports s d e.place e.state m o.0 (st.frames ∙ (y.pending phase event.0 f.parts.stream (sight v) alone event.1 g.streams).2) chain untaken in
          record {
            begun = Calls (beside d e) (beside d m) o.1 more;
            new = λ p n at op. elim ((openings_are_new c s e.place (with_dgrams d e.state) (beside d m) more).1 p op) [
              | inl was ↦ g.places p n at (sym st.opening ∙ was)
              | inr le ↦ below_all p v.place ((slots_are_known c).placed f.parts.dgram.tables d (sight v) p n g.slots at) (subst (λ n. n ≤ p) st.next le)
            ];
          }

      abbrev May : Act Served → Type 0
      May e = Begins (Cancels s v.place k alone) (Chain (served b) s) e × (e.posts ≡ [])

      apart : (j n : ℕ) → is_some (d.held n) ≡ true → left j ≡ Some n → ⊥
      apart j n held e = g.apart n held (asked j n (was_there lower (names f.parts.stream) j n e).1)

      pub stream_up : Goal (with_parts f (drops_at f.server (dgram.transport for_one) t fewer.parts v (Some (Stream lower z))))
      stream_up = leads_renamed Done (numbers_of (without i f.parts.tables) left) (with_at i None (names_in c Tied names Owns s f)) (without i f.parts.tables) f v phase _ numbers
          (leads_both b c same_transports s t first Tied names Owns y fewer v d fair g.server g.dgram_server g.settings g.slots left v.ticket waits g.timers apart (Leaves (served b) Tied names Owns May left f.parts.stream (onto [] v) phase) (Left Done (numbers_of (without i f.parts.tables) left) fewer v phase) (t.cancel z f.parts.stream (onto [] v))
          (subst (λ n. Leads (Leaves (served b) Tied names Owns May (with_at n None (names f.parts.stream)) f.parts.stream (onto [] v) phase) (t.cancel z f.parts.stream (onto [] v))) at
          (y.tie.cancels phase f.parts.stream (onto [] v) alone z k may g.streams fair_on (subst (λ n. names f.parts.stream n ≡ Some k) (sym at) below)))
          (λ u x l.
          let untaken = (y.pending phase event.0 u (sight x) l.made.state event.1 l.tied).1 in
          let none = y.alone phase u (sight x) l.made.state l.tied in
          let did = stream_done l.made l.may.0 untaken in
          streams_leave b c same_transports s t first Tied names Owns y fewer v d fair g.server g.dgram_server g.settings g.slots left v.ticket waits g.timers apart May phase u x l l.goes_on.ticket phase l.made.state
          (subst (Tied phase u (sight x)) (ap (λ (e : Dgrams). with_dgrams e l.made.state) none) l.tied) did.new (over_beside c phase v.place a l.made.state may g.over) (λ told. g.quiet told) Done (did.begun, l.may.1)))

    pub gives_up_one : Goal (with_parts f (fallback.drops f.server (dgram.transport for_one) t i f.parts v))
    gives_up_one = go (entry_at i f.parts.tables.jobs) refl named
      where
        at_job : (job : Job Request dgram.Asked stream.Asked) → entry_at i f.parts.tables.jobs ≡ Some job → WaitsBelow ticket_at d (names_of f.parts.dgram.tables) (names f.parts.stream) job → number_in (names f.parts.stream) job ≡ Some k → Goal (with_parts f (drops_at f.server (dgram.transport for_one) t fewer.parts v (Some job)))
        at_job _ is (AtDgrams lower l r z n below at held asks) e =
            let same : l ≡ k = cc in
            subst (λ l. Goal (with_parts f (drops_at f.server (dgram.transport for_one) t fewer.parts v (Some (Dgram lower l r z))))) (sym same)
            (dgram_up lower r z (subst (λ l. entry_at i f.parts.tables.jobs ≡ Some (Dgram lower l r z)) same is) at (below ∙ ap Some same))
        at_job _ is (AtStreams lower l z below at) e = stream_up lower z is at e

        go : (o : Option (Job Request dgram.Asked stream.Asked)) → entry_at i f.parts.tables.jobs ≡ o → option_and_then (number_in (names f.parts.stream)) o ≡ Some k → Goal (with_parts f (drops_at f.server (dgram.transport for_one) t fewer.parts v (entry_at i f.parts.tables.jobs)))
        go None is e = absurd (cc)
        go (Some job) is e = subst (λ o. Goal (with_parts f (drops_at f.server (dgram.transport for_one) t fewer.parts v o))) (sym is) (at_job job is (g.waiting.waits i job is) e)
