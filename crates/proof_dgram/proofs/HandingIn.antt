-- A request is handed to a fallback: it goes to the datagrams.
use Rattle.std.proofs.Common.{◌≡◌, ℕ, ◌+◌, ◌<◌, ◌≤◌, inl, inr, Bool, true, false, ◌||◌, is_some, [], ◌∷◌, Option, Some, None, refl, sym, ap, subst, ◌∙◌, arith, le_refl, append_assoc}
use Rattle.std.specs.Prelude.{option_and_then, if◌then◌else◌}
use Rattle.client_request.specs.Carries.{IsOfOctets}
use Rattle.client_request.specs.Request.{Request}
use Rattle.client_request.specs.Requests.{for_one}
use Rattle.client_request.specs.Timers.{can_draw}
use Rattle.client_request.specs.View.{View, Transport, asks}
use Rattle.client_request.specs.declared.event.Out.TheVariants.{Start}
use Rattle.client_request.specs.declared.event.Via.TheVariants as via
use Rattle.client_dgram.specs.Plain as dgram
use Rattle.client_stream.specs.Plain as stream
use Rattle.client_multi.specs.Fallback as fallback
use Rattle.client_multi.specs.Fallback.{Tables, onto, with_tables, admits, with_parts, settles_dgram}
use Rattle.client_multi.specs.declared.dgram_stream.job.Job.{Job}
use Rattle.client_multi.specs.declared.dgram_stream.job.Job.TheVariants.{Dgram}
use Rattle.right_trace.specs.Orderly.{use_at}
use Rattle.right_trace.specs.Trace.{Conf, ByDatagrams}
use Rattle.proof_right.specs.machine.Part.{Act}
use Rattle.right_trace.specs.Updates.{with_at}
use Rattle.proof_right.specs.machine.Dgrams.{Queued, Ending, Tryer, Dgrams, no_datagram}
use Rattle.proof_right.specs.machine.Served.{Served, served, holds, Starts}
use Rattle.proof_parts.specs.Chains.{Chain, Begins, Calls}
use Rattle.proof_parts.specs.PartTie.{Phase, IsOpen, Leads, Leaves}
use Rattle.proof_parts.specs.Sights.{Sight, sight, IsFair}
use Rattle.proof_parts.proofs.Keys.{with_here, with_there, is_or_was}
use Rattle.proof_parts.proofs.Tables.{absent_above}
use Rattle.proof_dgram.specs.AtServer.{with_dgrams, at_server}
use Rattle.proof_dgram.specs.Calls as calls
use Rattle.proof_dgram.specs.Calls.{HasTaken, with_request}
use Rattle.proof_dgram.specs.Slots.{AreSlots, slots_of, names_of}
use Rattle.proof_dgram.specs.Steps.{Steps}
use Rattle.proof_dgram.specs.Waiting.{WaitsBelow, AtDgrams, AtStreams, AreWaiting, numbers_of, ticket_at}
use Rattle.proof_dgram.specs.Fallback.{AreStreams, IsOver, IsFallback, Both, names_in, OwnsEither}
use Rattle.proof_dgram.proofs.Admitting.{tables_change}
use Rattle.proof_dgram.proofs.AtServer.{servers_move}
use Rattle.proof_dgram.proofs.BesideDgrams.{dgrams_leave}
use Rattle.proof_dgram.proofs.CallsAreMoves.{calls_are_moves}
use Rattle.proof_dgram.proofs.Changing.{settled}
use Rattle.proof_dgram.proofs.GivingUp.{leads_dgrams, leads_first}
use Rattle.proof_dgram.proofs.Handing.{gives_as}
use Rattle.proof_dgram.proofs.Known.{slots_are_known}
use Rattle.proof_dgram.proofs.Passing.{still_over}
use Rattle.proof_dgram.proofs.Placed.{places_stay, stay_then}
use Rattle.proof_dgram.proofs.Staying.{requests_stay}
use Rattle.proof_dgram.proofs.Wholes.{IsWhole, changed, steps_whole, whole_at_first}

-- nobody has the request, neither at the datagrams nor at the streams
pub neither : (a b : Bool) → (a || b) ≡ false → (a ≡ false) × (b ≡ false)
neither true b e = absurd (let z : true ≡ false = e in cc)
neither false b e = (refl, e)

pub none_of : {A : Type 0} (o : Option A) → is_some o ≡ false → o ≡ None
none_of None e = refl
none_of (Some a) e = absurd (let z : true ≡ false = e in cc)

-- who waits waits also beside one more request
module _ (s : Tables Request dgram.Asked stream.Asked) (d : Dgrams) (by_dgram by_stream : ℕ → Option ℕ) (ticket k : ℕ) (r : Request) (free : d.held k ≡ None) (f : AreWaiting ticket_at s d by_dgram by_stream ticket) where
  pub waits_beside : AreWaiting ticket_at s (with_request k r d) by_dgram by_stream ticket
  waits_beside = record { waits = λ t job is. on job (f.waits t job is); below = f.below; tickets = f.tickets; dgrams = f.dgrams; streams = f.streams; jobs_order = f.jobs_order; tickets_order = f.tickets_order }
    where
      on : (job : Job Request dgram.Asked stream.Asked) → WaitsBelow ticket_at d by_dgram by_stream job → WaitsBelow ticket_at (with_request k r d) by_dgram by_stream job
      on _ (AtDgrams i l q x a n at held asks) = AtDgrams i l q x a n at (with_there k (Some (record { request = r; tries = 0; stage = Queued })) d.held l (λ same. (let z : None ≡ Some a = sym free ∙ (ap d.held same ∙ held) in cc)) ∙ held) asks
      on _ (AtStreams i l x n at) = AtStreams i l x n at

module _ (b c : Conf) (same_transports : b.transports ≡ c.transports) (s : ℕ) (used : use_at s c.servers ≡ Some ByDatagrams) {S : Type 0} (t : Transport Request S stream.Asked) (first : S) (Tied : Phase → S → Sight → Served → Type 0) (names : S → ℕ → Option ℕ) (Owns : S → (timer : ℕ) → Type 0) (y : AreStreams b s t first Tied names Owns) where
  abbrev Two : Type 0
  Two = Both c Tied names Owns s

  module _ (phase : Phase) (f : Two) (v : View) (a : Served) (r : Request) (may : IsOpen phase v.place) (g : IsFallback c Tied names Owns s phase f (sight v) a) (fair : IsFair v) (octets : IsOfOctets r) (free : holds a v.request ≡ false) where
    abbrev Done : Act Served → Type 0
    Done = Begins (Starts c s v.place v.request r a) (Chain (served c) s)

    abbrev Goal : Two → View → Type 0
    Goal = Leaves (served c) (IsFallback c Tied names Owns s) (names_in c Tied names Owns s) (OwnsEither c Tied names Owns s) Done (with_at v.ticket (Some v.request) (names_in c Tied names Owns s f)) f v phase

    abbrev d : Dgrams
    d = a.server.by_dgram

    abbrev k : ℕ
    k = v.request

    -- the ticket of the fallback is drawn, and the datagrams draw the next one
    abbrev v1 : View
    v1 = record (asks (Start v.request s via.Dgram) v) { ticket = v.ticket + 1 }

    abbrev lower : ℕ
    lower = v.ticket + 1

    abbrev queued : Tryer
    queued = record { request = r; tries = 0; stage = Queued }

    abbrev asked : dgram.Asked
    asked = record { ticket = v.ticket + 1; given = false }

    abbrev job : Job Request dgram.Asked stream.Asked
    job = Dgram lower k r asked

    abbrev f1 : Two
    f1 = record f { parts = with_tables (admits v.ticket job f.parts.tables) f.parts }

    not_held : d.held k ≡ None
    not_held = none_of (d.held k) (neither (is_some (d.held k)) (is_some (a.server.by_stream.asks k)) free).0

    not_asked : is_some (a.server.by_stream.asks k) ≡ false
    not_asked = (neither (is_some (d.held k)) (is_some (a.server.by_stream.asks k)) free).1

    up : (n : ℕ) → n ≤ n + 1
    up n = omega arith

    over : (n : ℕ) → n < n + 2
    over n = omega arith

    under : (n : ℕ) → n + 1 < n + 2
    under n = omega arith

    within : (n : ℕ) → n ≤ n + 2
    within n = omega arith

    reached : (n x : ℕ) → n + 1 < x → n + 2 ≤ x
    reached n x lt = omega arith

    above : (n x : ℕ) → x < n → x ≡ n + 1 → ⊥
    above n x lt e = omega arith

    no_dgram : names_of f.parts.dgram.tables lower ≡ None
    no_dgram = by (names_of f.parts.dgram.tables lower) refl
      where
        by : (o : Option ℕ) → names_of f.parts.dgram.tables lower ≡ o → names_of f.parts.dgram.tables lower ≡ None
        by None e = e
        by (Some l) e = absurd (above v.ticket lower ((slots_are_known c).named f.parts.dgram.tables d (sight v) lower l g.slots e).0 refl)

    no_stream : names f.parts.stream lower ≡ None
    no_stream = by (names f.parts.stream lower) refl
      where
        by : (o : Option ℕ) → names f.parts.stream lower ≡ o → names f.parts.stream lower ≡ None
        by None e = e
        by (Some l) e = absurd (above v.ticket lower (y.tie.named phase f.parts.stream (sight v) (with_dgrams no_datagram a) lower l g.streams e).0 refl)

    abbrev more : AreWaiting ticket_at (admits v.ticket job f.parts.tables) (with_request k r d) (with_at lower (Some k) (names_of f.parts.dgram.tables)) (names f.parts.stream) (v.ticket + 2) × ((u : ℕ) → numbers_of (admits v.ticket job f.parts.tables) (names f.parts.stream) u ≡ with_at v.ticket (Some k) (numbers_of f.parts.tables (names f.parts.stream)) u)
    more = tables_change.by_dgram f.parts.tables (with_request k r d) (names_of f.parts.dgram.tables) (names f.parts.stream) v.ticket (v.ticket + 2) v.ticket lower k r asked queued
        (waits_beside f.parts.tables d (names_of f.parts.dgram.tables) (names f.parts.stream) v.ticket k r not_held g.waiting)
        (absent_above 0 v.ticket v.ticket f.parts.tables.jobs (le_refl v.ticket) g.waiting.jobs_order, absent_above 0 v.ticket lower f.parts.tables.tickets (up v.ticket) g.waiting.tickets_order, over v.ticket, under v.ticket, within v.ticket)
        no_dgram no_stream refl (with_here k (Some queued) d.held) refl

    fair1 : IsFair v1
    fair1 = record { order = fair.order; words = fair.words }

    slots1 : AreSlots c 0 f.parts.dgram.tables d (sight v1)
    slots1 = (slots_are_known c).same f.parts.dgram.tables d (sight v) (sight v1) g.slots (λ i own. refl) (le_refl v.timers.next) (up v.ticket) (le_refl v.place)

    streams1 : Tied phase f.parts.stream (sight v1) (with_dgrams no_datagram a)
    streams1 = y.tie.same phase f.parts.stream (sight v) (sight v1) (with_dgrams no_datagram a) g.streams refl (λ i own. refl) (le_refl v.timers.next) (up v.ticket) (le_refl v.place)

    clock : a.clock ≡ v.now
    clock = y.clock phase f.parts.stream (sight v) (with_dgrams no_datagram a) g.streams

    whole : IsWhole (with_request k r d)
    whole = changed d k queued (λ z e. absurd (let n : Queued ≡ Ending z = e in cc)) (whole_at_first d (settled c 0 (slots_of f.parts.dgram.tables) d _ g.slots.alike))

    apart : (n : ℕ) → is_some ((with_request k r d).held n) ≡ true → is_some (a.server.by_stream.asks n) ≡ true → ⊥
    apart n held asks = by ((with_request k r d).held n) refl held
      where
        by : (o : Option Tryer) → (with_request k r d).held n ≡ o → is_some o ≡ true → ⊥
        by None e h = (let z : false ≡ true = h in cc)
        by (Some x) e h = elim (is_or_was k (Some queued) d.held n x e) [
          | inl q ↦ (let z : false ≡ true = sym not_asked ∙ (ap (λ n. is_some (a.server.by_stream.asks n)) q.0 ∙ asks) in cc)
          | inr q ↦ g.apart n (ap is_some q.1) asks
        ]

    -- what the datagrams did for it
    abbrev Start_done : Act Served → Type 0
    Start_done e = Done (record e { outs = Start k s via.Dgram ∷ e.outs })

    taken : (z : dgram.Tables Request) (x : View) → HasTaken c s r f.parts.dgram.tables d (onto [] v1) z x → Leads Goal (with_parts f1 (fallback.collects f1.server t x.board [] (record f1.parts { dgram = record f.parts.dgram { tables = z } }) (onto v1.board x)))
    taken z x h = again (with_parts f1 (fallback.collects f1.server t x.board [] (record f1.parts { dgram = record f.parts.dgram { tables = z } }) (onto v1.board x)))
        (leads_first _ _ _
        (dgrams_leave b c same_transports s t first Tied names Owns y f1 v1 d (with_request k r d) fair1 g.server g.dgram_server g.settings h.made z x h.leaves g.timers
        ((requests_stay c).steps s v.now v.place (with_request k r d) h.made h.steps) phase phase a streams1 g.places apart
        (v.ticket + 2) (with_at lower (Some k) (names_of f.parts.dgram.tables)) more.0 (reached v.ticket x.ticket h.drawn) h.posts (steps_whole c s v.now v.place (with_request k r d) h.made whole h.steps) over (λ told. g.quiet told) Start_done done))
      where
        begun : Served
        begun = with_dgrams (with_request k r d) a

        over : IsOver c phase (with_dgrams h.made.state a)
        over = still_over c phase v.place a h.made.state may
            (stay_then v.place d (with_request k r d) h.made.state ((places_stay c).takes v.place k r d) ((places_stay c).steps s v.now v.place v.place (with_request k r d) h.made (le_refl v.place) h.steps)) g.over

        done : Start_done (record { state = with_dgrams h.made.state a; place = h.made.place; outs = h.made.outs; posts = h.made.posts })
        done = Calls (record { state = with_dgrams (with_request k r d) a; place = v.place; outs = Start k s via.Dgram ∷ []; posts = [] }) (at_server (with_dgrams (with_request k r d) a) with_dgrams h.made) (servers_move.starts c s v.place k r a used not_held)
            (servers_move.steps c s v.place (with_dgrams (with_request k r d) a) h.made (subst (λ n. Steps c s n v.place (with_request k r d) h.made) (sym clock) h.steps))

        again : (o : Option (Two × View)) → Leads (Leaves (served c) (IsFallback c Tied names Owns s) (names_in c Tied names Owns s) (OwnsEither c Tied names Owns s) Start_done (numbers_of (admits v.ticket job f.parts.tables) (names f.parts.stream)) f1 v1 phase) o → Leads Goal o
        again None q = tt
        again (Some o) l = record {
          made = record l.made { outs = Start k s via.Dgram ∷ l.made.outs };
          may = l.may;
          outs = l.outs ∙ append_assoc v.outs (Start k s via.Dgram ∷ []) l.made.outs;
          place = l.place;
          board = l.board;
          put = l.put;
          gives = gives_as (numbers_of (admits v.ticket job f.parts.tables) (names f.parts.stream)) (with_at v.ticket (Some k) (numbers_of f.parts.tables (names f.parts.stream))) (names_in c Tied names Owns s o.0) l.board l.made.posts more.1 l.gives;
          tied = l.tied;
          goes_on = record { fair = l.goes_on.fair; now = l.goes_on.now; timer = l.goes_on.timer; ticket = reached_up v.ticket o.1.ticket l.goes_on.ticket; place = l.goes_on.place; later = l.goes_on.later };
          owned = l.owned;
          others = l.others;
        }
          where
            reached_up : (n x : ℕ) → n + 1 ≤ x → n ≤ x
            reached_up n x le = omega arith

    pub sends_one : Leads Goal ((fallback.transport (dgram.transport for_one) t).send r f (asks (Start v.request s via.Dgram) v))
    sends_one = go (can_draw v.ticket)
      where
        go : (x : Bool) → Leads Goal (with_parts f (option_and_then (fallback.takes_at f.server (dgram.transport for_one) t v.ticket r f.parts) (if x then Some v1 else None)))
        go false = tt
        go true = leads_dgrams b c same_transports s t first Tied names Owns y f1 v1 (HasTaken c s r f.parts.dgram.tables d (onto [] v1)) Goal (dgram.takes for_one f.parts.dgram.server f.parts.dgram.settings r f.parts.dgram.tables (onto [] v1))
            (subst (λ n. calls.Leads (HasTaken c s r f.parts.dgram.tables d (onto [] v1)) (dgram.takes for_one n f.parts.dgram.settings r f.parts.dgram.tables (onto [] v1))) (sym g.dgram_server)
            (subst (λ z. calls.Leads (HasTaken c s r f.parts.dgram.tables d (onto [] v1)) (dgram.takes for_one s z r f.parts.dgram.tables (onto [] v1))) (sym g.settings)
            ((calls_are_moves c).sends s f.parts.dgram.tables d (onto [] v1) r slots1 (record { order = fair.order; words = fair.words }) octets not_held))) taken
