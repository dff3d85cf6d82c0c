-- A cut answer came: its request goes on by the streams.
use Rattle.std.proofs.Common.{◌≡◌, ℕ, ◌+◌, ◌<◌, ◌≤◌, ◌⊎◌, inl, inr, Bool, true, false, is_some, [], ◌++◌, Option, Some, None, refl, sym, ap, subst, ◌∙◌, arith, le_trans, append_assoc}
use Rattle.std.specs.Prelude.{Ok, option_and_then, option_map}
use mathlib.Core.Path.{fun_ext}
use Rattle.client_request.specs.Carries.{IsOfOctets}
use Rattle.client_request.specs.Numbered.{frees, entry_at}
use Rattle.client_request.specs.Request.{Request}
use Rattle.client_request.specs.Requests.{for_one}
use Rattle.client_request.specs.View.{View, Transport, asks, told}
use Rattle.client_request.specs.declared.board.Posted.{Posted}
use Rattle.client_request.specs.declared.event.Out.TheVariants.{Start, Close}
use Rattle.client_request.specs.declared.event.Via.TheVariants as via
use Rattle.client_request.specs.declared.event.What.{What}
use Rattle.client_request.specs.declared.event.What.TheVariants.{Tick}
use Rattle.client_dgram.specs.Plain as dgram
use Rattle.client_stream.specs.Plain as stream
use Rattle.client_multi.specs.Fallback as fallback
use Rattle.client_multi.specs.Fallback.{Tables, is_truncated, onto, with_tables, admits, without_at, waiting_at, settles_at, settles_whole, settles, settles_all, follows, follows_at, gives_rest, with_parts, hears_stream}
use Rattle.client_multi.specs.declared.dgram_stream.job.Job.{Job}
use Rattle.client_multi.specs.declared.dgram_stream.job.Job.TheVariants.{Dgram, Stream}
use Rattle.right_trace.specs.Messages.{Octets, truncated}
use Rattle.right_trace.specs.Trace.{Conf}
use Rattle.proof_right.specs.machine.Part.{Act}
use Rattle.proof_right.specs.machine.Streams as multi
use Rattle.proof_right.specs.machine.Streams.{IsForeign}
use Rattle.right_trace.specs.Updates.{with_at}
use Rattle.proof_right.specs.machine.Dgrams.{Cut, Tryer, Dgrams, no_datagram, staged, leave, forget}
use Rattle.proof_right.specs.machine.Served as machine
use Rattle.proof_right.specs.machine.Served.{Served, served, holds, has_taken_it, Starts}
use Rattle.proof_parts.specs.Chains.{Chain, Goes, Begins, Calls, then_act, Gives}
use Rattle.proof_parts.specs.PartTie.{Phase, Untold, Told, Leads, GoesOn, Leaves}
use Rattle.proof_parts.specs.Sights.{Sight, sight, due_of, IsFair, NoneDue}
use Rattle.proof_parts.proofs.GoingOn.{goes_then, none_next}
use Rattle.proof_parts.proofs.Keys.{with_here, was_there, is_or_was, with_again, with_same}
use Rattle.proof_parts.proofs.Tables.{at_frees, absent_above, present_below}
use Rattle.proof_dgram.specs.AtServer.{with_dgrams, taken_by, at_server}
use Rattle.proof_dgram.specs.Calls as calls
use Rattle.proof_dgram.specs.Calls.{HasCut}
use Rattle.proof_dgram.specs.Halves.{beside}
use Rattle.proof_dgram.specs.Slots.{names_of}
use Rattle.proof_dgram.specs.Staying.{AsksTheSame}
use Rattle.proof_dgram.specs.Steps.{made_by, AsItIs}
use Rattle.proof_dgram.specs.Waiting.{WaitsBelow, AtDgrams, AtStreams, AreWaiting, number_in, numbers_of, ticket_at}
use Rattle.proof_dgram.specs.Fallback.{AreStreams, IsFallback, Both, names_in, OwnsEither}
use Rattle.proof_dgram.proofs.Admitting.{tables_change, less_waiting, less_numbers}
use Rattle.proof_dgram.proofs.AtServer.{chain_then}
use Rattle.proof_dgram.proofs.BesideDgrams.{none_due_now, timers_now, tied_now, places_now}
use Rattle.proof_dgram.proofs.BesideStreams.{streams_leave}
use Rattle.proof_dgram.proofs.Halves.{streams_move}
use Rattle.proof_dgram.proofs.Handing.{gives_as}
use Rattle.proof_dgram.proofs.Known.{slots_are_known}
use Rattle.proof_dgram.proofs.Sitting.{sits, sitting}
use Rattle.proof_dgram.proofs.Staying.{asks_then, openings_are_new, requests_stay}
use Rattle.proof_dgram.proofs.Timing.{settled_alone}
use Rattle.proof_dgram.proofs.Told.{IsTheirs, theirs, none_more, Tell, takes_it, passed_by}

is_cut : (m : Octets) → truncated m ≡ true → is_truncated (Ok (Some m)) ≡ true
unfolding truncated
is_cut m e = e

-- a request that is handed to streams is handed to any server with these streams
record Handed (b : Conf) (s place k : ℕ) (r : Request) (u : Served) (e : Act Served) : Type 0 where
  pub same : e.state ≡ record u { server = e.state.server }
  pub starts : Starts b s place k r (record u { pending = Tick; taken = true; frames = [] }) (record e { state = record u { server = e.state.server; pending = Tick; taken = true; frames = [] } })

handed : (b : Conf) (s place k : ℕ) (r : Request) (u : Served) (e : Act Served) → Starts b s place k r u e → Handed b s place k r u e
handed b s place k r u _ (machine.IsHanded how x v is it) = record { same = refl; starts = machine.IsHanded how x v is it }

module _ (b c : Conf) (same_transports : b.transports ≡ c.transports) (s : ℕ) {S : Type 0} (t : Transport Request S stream.Asked) (first : S) (Tied : Phase → S → Sight → Served → Type 0) (names : S → ℕ → Option ℕ) (Owns : S → (timer : ℕ) → Type 0) (y : AreStreams b s t first Tied names Owns) where
  abbrev Two : Type 0
  Two = Both c Tied names Owns s

  module _ (f : Two) (v : View) (a : Served) (w : What) (g : IsFallback c Tied names Owns s (Untold w) f (sight v) a) (fair : IsFair v) (early : NoneDue (OwnsEither c Tied names Owns s f) (sight v)) (calm : v.more ≡ false) (z : dgram.Tables Request) (q : View) (h : HasCut c s w f.parts.dgram.tables a.server.by_dgram (onto [] v) z q) where
    abbrev d : Dgrams
    d = a.server.by_dgram

    abbrev alone : Served
    alone = with_dgrams no_datagram a

    abbrev tables : dgram.Tables Request
    tables = f.parts.dgram.tables

    abbrev k : ℕ
    k = h.request

    abbrev left : Dgrams
    left = leave h.at k h.tryer Cut d

    abbrev made : Act Dgrams
    made = h.made

    -- the datagrams once the request went on
    abbrev d2 : Dgrams
    d2 = forget k made.state

    abbrev taken : Served
    taken = has_taken_it a.server a

    abbrev mid : Served
    mid = with_dgrams made.state taken

    asks1 : AsksTheSame d made.state
    asks1 = asks_then d left made.state ((requests_stay c).meets v.now v.place d left w (multi.Puts (Close h.at)) h.meets) ((requests_stay c).steps s v.now v.place left made h.steps)

    asks2 : AsksTheSame d d2
    asks2 = λ j x e. asks1 j x (was_there k made.state.held j x e).1

    theirs_now : IsTheirs w a.server.by_stream
    theirs_now = theirs c v.now d left w (multi.Puts (Close h.at)) a.server.by_stream g.places h.meets

    tied_q : Tied (Untold w) f.parts.stream (sight q) alone
    tied_q = tied_now b c same_transports s t first Tied names Owns y f v d d fair g.server g.dgram_server g.settings (then_act (made_by v.place (multi.Puts (Close h.at)) d) (record made { state = d2 })) z q h.leaves g.timers asks2 (Untold w) (Untold w) a g.streams g.places g.apart

    timers_q : (i : ℕ) → calls.Owns z i → Owns f.parts.stream i → ⊥
    timers_q = timers_now b c same_transports s t first Tied names Owns y f v d d fair g.server g.dgram_server g.settings (then_act (made_by v.place (multi.Puts (Close h.at)) d) (record made { state = d2 })) z q h.leaves g.timers asks2 (Untold w) (Untold w) a g.streams g.places g.apart

    places_q : (p n : ℕ) → d2.at p ≡ Some n → a.server.by_stream.opening ≡ Some p → ⊥
    places_q = places_now b c same_transports s t first Tied names Owns y f v d d fair g.server g.dgram_server g.settings (then_act (made_by v.place (multi.Puts (Close h.at)) d) (record made { state = d2 })) z q h.leaves g.timers asks2 (Untold w) (Untold w) a g.streams g.places g.apart

    -- where it waits: u is its ticket
    found : (u : ℕ) × (r : Request) × (x : dgram.Asked) × (entry_at u f.parts.tables.jobs ≡ Some (Dgram h.ticket k r x))
    found = g.waiting.dgrams h.ticket k h.named

    abbrev u : ℕ
    u = found.0

    abbrev r : Request
    r = found.1

    asked_for : h.tryer.request ≡ r
    asked_for = by _ refl (g.waiting.waits u (Dgram h.ticket k r found.2) found.3)
      where
        by : (job : Job Request dgram.Asked stream.Asked) → Dgram h.ticket k r found.2 ≡ job → WaitsBelow ticket_at d (names_of tables) (names f.parts.stream) job → h.tryer.request ≡ r
        by _ is (AtDgrams lower l x o a n at held same_asked) =
            let same_k : k ≡ l = cc in
            let same_r : r ≡ x = cc in
            let both : Some h.tryer ≡ Some a = sym h.is_held ∙ (ap d.held same_k ∙ held) in
            let same : h.tryer ≡ a = cc in
            ap (λ (a : Tryer). a.request) same ∙ (same_asked ∙ sym same_r)
        by _ is (AtStreams lower l x at e) = absurd (cc)

    octets : IsOfOctets r
    octets = subst IsOfOctets asked_for h.octets

    not_asked : (o : Bool) → is_some (a.server.by_stream.asks k) ≡ o → is_some (a.server.by_stream.asks k) ≡ false
    not_asked true e = absurd (g.apart k (ap is_some h.is_held) e)
    not_asked false e = e

    free : holds alone k ≡ false
    free = not_asked (is_some (a.server.by_stream.asks k)) refl

    abbrev fewer : Tables Request dgram.Asked stream.Asked
    fewer = record { jobs = frees u f.parts.tables.jobs; tickets = frees h.ticket f.parts.tables.tickets }

    abbrev parts : fallback.Parts Request (dgram.Dgram Request) S dgram.Asked stream.Asked
    parts = record f.parts { dgram = record f.parts.dgram { tables = z } }

    -- the view with which it is handed to the streams
    abbrev v2 : View
    v2 = record q { board = v.board; request = k }

    abbrev starting : View
    starting = asks (Start k f.server via.Stream) (onto [] v2)

    abbrev job : Job Request dgram.Asked stream.Asked
    job = Stream q.ticket (t.response r f.parts.stream starting)

    abbrev f2 : Two
    f2 = record f { parts = record parts { tables = admits u job fewer } }

    abbrev named : ℕ → Option ℕ
    named = with_at q.ticket (Some k) (names f.parts.stream)

    fair2 : IsFair v2
    fair2 = record { order = h.leaves.after.fair.order; words = h.leaves.after.fair.words }

    -- The tables once it waits at the streams.

    abbrev n2 : ℕ
    n2 = q.ticket + 1

    waits_less : AreWaiting ticket_at fewer d (with_at h.ticket None (names_of tables)) (names f.parts.stream) v.ticket
    waits_less = less_waiting f.parts.tables d (names_of tables) (names f.parts.stream) v.ticket g.waiting u h.ticket k r found.2 found.3

    waits_z : AreWaiting ticket_at fewer d2 (names_of z) (names f.parts.stream) v.ticket
    waits_z = tables_change.moves fewer d d2 (names_of z) (names f.parts.stream) v.ticket (subst (λ n. AreWaiting ticket_at fewer d n (names f.parts.stream) v.ticket) (fun_ext (λ i. sym (h.names i))) waits_less) asks2 (λ i n e. ((slots_are_known c).named z d2 (sight q) i n h.leaves.slots e).1)

    not_below : (n : ℕ) → n < n → ⊥
    not_below n lt = omega arith

    within : (a x y : ℕ) → a < x → x ≤ y → a < y + 1
    within a x y lt le = omega arith

    next : (x : ℕ) → x < x + 1
    next x = omega arith

    over : (x y : ℕ) → x ≤ y → x ≤ y + 1
    over x y le = omega arith

    reached : (x y : ℕ) → x < y → x + 1 ≤ y
    reached x y lt = omega arith

    not_both : (p n : ℕ) → p < n → n ≤ p → ⊥
    not_both p n lt le = omega arith

    none_if : (o : Option ℕ) → ((l : ℕ) → o ≡ Some l → ⊥) → o ≡ None
    none_if None never = refl
    none_if (Some l) never = absurd (never l refl)

    more : AreWaiting ticket_at (admits u job fewer) d2 (names_of z) named n2 × ((i : ℕ) → numbers_of (admits u job fewer) named i ≡ with_at u (Some k) (numbers_of fewer (names f.parts.stream)) i)
    more = tables_change.by_stream fewer d2 (names_of z) (names f.parts.stream) v.ticket n2 u q.ticket k (t.response r f.parts.stream starting) waits_z
        (at_frees u u 0 v.ticket f.parts.tables.jobs g.waiting.jobs_order ∙ with_here u None (λ j. entry_at j f.parts.tables.jobs), absent_above 0 v.ticket q.ticket fewer.tickets h.leaves.after.ticket waits_less.tickets_order, within u v.ticket q.ticket (present_below u 0 v.ticket _ f.parts.tables.jobs g.waiting.jobs_order found.3) h.leaves.after.ticket, next q.ticket, over v.ticket q.ticket h.leaves.after.ticket)
        (none_if (names_of z q.ticket) (λ l e. not_below q.ticket ((slots_are_known c).named z d2 (sight q) q.ticket l h.leaves.slots e).0))
        (none_if (names f.parts.stream q.ticket) (λ l e. not_below q.ticket (y.tie.named (Untold w) f.parts.stream (sight q) alone q.ticket l tied_q e).0)) (y.tie.response r f.parts.stream starting)

    abbrev before : ℕ → Option ℕ
    before = numbers_of f.parts.tables (names f.parts.stream)

    same_numbers : (i : ℕ) → numbers_of (admits u job fewer) named i ≡ before i
    same_numbers i = more.1 i
        ∙ (ap (λ (n : ℕ → Option ℕ). with_at u (Some k) n i) (fun_ext (λ j. less_numbers f.parts.tables d (names_of tables) (names f.parts.stream) v.ticket g.waiting u h.ticket k r found.2 found.3 j))
        ∙ (with_again u (Some k) None before i ∙ with_same u (Some k) before i (ap (λ o. option_and_then (number_in (names f.parts.stream)) o) found.3)))

    held_before : (n : ℕ) → is_some (d2.held n) ≡ true → is_some (d.held n) ≡ true
    held_before n e = by (d2.held n) refl e
      where
        by : (o : Option Tryer) → d2.held n ≡ o → is_some o ≡ true → is_some (d.held n) ≡ true
        by None is e = absurd (let z : false ≡ true = e in cc)
        by (Some x) is e = ap is_some (asks2 n x is).1

    apart2 : (i n : ℕ) → is_some (d2.held n) ≡ true → named i ≡ Some n → ⊥
    apart2 i n held e = elim (is_or_was q.ticket (Some k) (names f.parts.stream) i n e) [
      | inl x ↦ (let o : Some k ≡ Some n = x.1 in let same : k ≡ n = cc in let z : false ≡ true = sym (ap is_some (with_here k None made.state.held)) ∙ (ap (λ n. is_some (d2.held n)) same ∙ held) in cc)
      | inr x ↦ g.apart n (held_before n held) (y.tie.named (Untold w) f.parts.stream (sight v) alone i n g.streams x.1).1
    ]

    -- What the streams do with it.

    abbrev May : Act Served → Type 0
    May = Begins (Starts b s q.place k r alone) (Chain (served b) s)

    record Went (e : Act Served) : Type 0 where
      pub same : e.state ≡ record alone { server = e.state.server }
      pub chain : Chain (served c) s q.place mid (record e { state = sits taken d2 e.state.server.by_stream })

    went : (e : Act Served) → May e → e.state.taken ≡ false → Went e
    went _ (Calls e m call rest) untaken =
        let x = handed b s q.place k r alone e call in
        let first : Act Served = record e { state = record alone { server = e.state.server; pending = Tick; taken = true; frames = [] } } in
        let o = streams_move.falls b c s q.place k r (record alone { pending = Tick; taken = true; frames = [] }) made.state (staged h.tryer Cut) first y.used refl h.is_cut refl asked_for x.starts in
        let l = sitting c b same_transports s taken d2 e.place e.state m o.0 (ap (λ (z : Served). z.frames) x.same ∙ (y.pending (Untold w) w f.parts.stream (sight v) alone refl g.streams).2) (sym (ap (λ (z : Served). z.clock) x.same)) rest untaken in
        record {
          same = l.same ∙ ap (λ (z : Served). record z { server = m.state.server }) x.same;
          chain = Goes q.place mid (beside d2 first) (record m { state = sits taken d2 m.state.server.by_stream }) o.1 l.chain;
        }

    abbrev one : Act Dgrams
    one = made_by v.place (multi.Puts (Close h.at)) left

    chain_first : Chain (served c) s v.place a (then_act (at_server a taken_by one) (at_server (taken_by left a) with_dgrams made))
    chain_first = takes_it b c same_transports s t first Tied names Owns y f v a w g fair early calm (multi.Puts (Close h.at)) left one h.meets theirs_now.foreign (AsItIs h.settled) made h.steps

    abbrev pre : Act Served
    pre = then_act (at_server a taken_by one) (at_server (taken_by left a) with_dgrams made)

    abbrev Done : Act Served → Type 0
    Done e = Chain (served c) s v.place a (then_act pre e)

    -- What is left of both.
    module _ (n : S) (x : View) (l : Leaves (served b) Tied names Owns May named f.parts.stream (onto [] v2) (Untold w) n x) (drawn : q.ticket < x.ticket) where
      abbrev m : Served
      m = l.made.state

      did : Went l.made
      did = went l.made l.may (y.pending (Untold w) w n (sight x) m refl l.tied).1

      abbrev after : Served
      after = sits taken d2 m.server.by_stream

      opens : (p : ℕ) → m.server.by_stream.opening ≡ Some p → (a.server.by_stream.opening ≡ Some p) ⊎ (q.place ≤ p)
      opens p op = (openings_are_new c s q.place mid (record l.made { state = after }) did.chain).1 p op

      new_before : (p j : ℕ) → d.at p ≡ Some j → m.server.by_stream.opening ≡ Some p → ⊥
      new_before p j at op = elim (opens p op) [
        | inl was ↦ g.places p j at was
        | inr le ↦ not_both p v.place ((slots_are_known c).placed tables d (sight v) p j g.slots at) (le_trans h.leaves.after.place le)
      ]

      new : (p j : ℕ) → d2.at p ≡ Some j → m.server.by_stream.opening ≡ Some p → ⊥
      new p j at op = elim (opens p op) [
        | inl was ↦ places_q p j at was
        | inr le ↦ not_both p q.place ((slots_are_known c).placed z d2 (sight q) p j h.leaves.slots at) le
      ]

      foreign : IsForeign w m.server.by_stream
      foreign = (theirs c v.now d left w (multi.Puts (Close h.at)) m.server.by_stream new_before h.meets).foreign

      -- none of the streams' timers is due
      early_now : (i due : ℕ) → Owns n i → due_of i x.timers.set ≡ Some due → x.now < due
      early_now i due own e = subst (λ n. n < due) (sym (l.goes_on.now ∙ h.leaves.after.now)) (elim (l.goes_on.later i due e) [
        | inl was ↦ elim (h.leaves.after.later i due was) [
          | inl old ↦ elim (l.owned i own) [
            | inl its ↦ early i due (inr its) old
            | inr le ↦ absurd (let z : None ≡ Some due = sym (none_next v2 i fair2 le) ∙ was in cc)
          ]
          | inr new ↦ new.0
        ]
        | inr new ↦ subst (λ n. n < due) h.leaves.after.now new.0
      ])

      tied : Tied (Told 0 0) n (sight x) (with_dgrams no_datagram after)
      tied = subst (Tied (Told 0 0) n (sight x))
          (ap (λ (z : Served). has_taken_it m.server z) did.same ∙ ap (λ (e : Dgrams). record taken { server = record { by_dgram = e; by_stream = m.server.by_stream } }) (y.alone (Untold w) n (sight x) m l.tied))
          (y.taken w n (sight x) m early_now l.tied foreign)

      chain : Chain (served c) s v.place a (then_act pre (record l.made { state = after }))
      chain = chain_then c s v.place a pre (record l.made { state = after }) chain_first (subst (λ p. Chain (served c) s p mid (record l.made { state = after })) h.leaves.place did.chain)

      abbrev end : Two
      end = record f2 { parts = (gives_rest f.server t x.board (record f2.parts { stream = n }) (onto v.board x)).0 }

      abbrev end_v : View
      end_v = (gives_rest f.server t x.board (record f2.parts { stream = n }) (onto v.board x)).1

      rest : Leaves (served c) (IsFallback c Tied names Owns s) (names_in c Tied names Owns s) (OwnsEither c Tied names Owns s) Done (numbers_of (admits u job fewer) named) f2 v2 (Told 0 0) end end_v
      rest = streams_leave b c same_transports s t first Tied names Owns y f2 v2 d2 fair2 g.server g.dgram_server g.settings h.leaves.slots named n2 more.0 timers_q apart2 May (Untold w) n x l (reached q.ticket x.ticket drawn) (Told 0 0) after tied new tt (λ told. none_due_now c tables z d v q (then_act (made_by v.place (multi.Puts (Close h.at)) d) (record made { state = d2 })) fair h.leaves (λ i due own e. early i due (inl own) e)) Done chain

      was_owned : (i : ℕ) → OwnsEither c Tied names Owns s f2 i → OwnsEither c Tied names Owns s f i ⊎ (v.timers.next ≤ i)
      was_owned i o = elim o [ inl own ↦ elim (h.leaves.apart.owned i own) [ inl was ↦ inl (inl was) | inr le ↦ inr le ] | inr own ↦ inl (inr own) ]

      not_new : (i due : ℕ) → (OwnsEither c Tied names Owns s f i → ⊥) → due_of i v.timers.set ≡ Some due → OwnsEither c Tied names Owns s f2 i → ⊥
      not_new i due never e o = elim (was_owned i o) [ inl was ↦ never was | inr le ↦ (let z : None ≡ Some due = sym (none_next v i fair le) ∙ e in cc) ]

      goes : GoesOn v v2
      goes = record { fair = fair2; now = h.leaves.after.now; timer = h.leaves.after.timer; ticket = h.leaves.after.ticket; place = h.leaves.after.place; later = h.leaves.after.later }

      all : Leaves (served c) (IsFallback c Tied names Owns s) (names_in c Tied names Owns s) (OwnsEither c Tied names Owns s) (Chain (served c) s v.place a) (names_in c Tied names Owns s f) f v (Told 0 0) end end_v
      all = record {
        made = then_act pre rest.made;
        may = rest.may;
        outs = rest.outs ∙ (ap (λ os. os ++ rest.made.outs) h.leaves.outs ∙ append_assoc v.outs pre.outs rest.made.outs);
        place = rest.place;
        board = rest.board;
        put = rest.put;
        gives = subst (λ xs. Gives before rest.board (xs ++ rest.made.posts) (names_in c Tied names Owns s end)) (sym h.nothing) (gives_as (numbers_of (admits u job fewer) named) before (names_in c Tied names Owns s end) rest.board rest.made.posts same_numbers rest.gives);
        tied = rest.tied;
        goes_on = goes_then v v2 end_v goes rest.goes_on;
        owned = λ i o. elim (rest.owned i o) [ inl was ↦ was_owned i was | inr le ↦ inr (le_trans h.leaves.after.timer le) ];
        others = λ i due no e. rest.others i due (not_new i due no e) (h.leaves.apart.others i due (λ o. no (inl o)) e);
      }

      abbrev Ends : Two → View → Type 0
      Ends = Tell b c same_transports s t first Tied names Owns y f v a w g fair early calm

      ends : x.more ≡ q.more → Ends end end_v
      ends same = record { at = 0; left = 0; may_be = theirs_now.none; more = same ∙ (h.leaves.after.more ∙ (calm ∙ none_more)); leaves = all }

    abbrev Goal : Option (Two × View) → Type 0
    Goal = Leads (Tell b c same_transports s t first Tied names Owns y f v a w g fair early calm)

    abbrev Streams_leave : S → View → Type 0
    Streams_leave = Leaves (served b) Tied names Owns May named f.parts.stream (onto [] v2) (Untold w)

    -- what is settled, by what the streams leave
    abbrev settled_by : Option (S × View) → Option (Two × View)
    settled_by o = with_parts f (option_map (λ x. gives_rest f.server t x.0.1 x.0.0 x.1) (option_and_then (λ x. settles_all f.server t [] x.0.0 x.0.1 x.1) (follows_at f.server t u r (with_tables fewer parts) (fallback.starts f.server k (onto v.board q)) starting o)))

    by_streams : (o : Option (S × View)) → Leads Streams_leave o → Leads (λ n x. (q.ticket < x.ticket) × (x.more ≡ q.more)) o → Goal (settled_by o)
    by_streams None l k = tt
    by_streams (Some o) l k = ends o.0 o.1 l k.0 k.1

    abbrev post : Posted
    post = record { ticket = h.ticket; part = Ok (Some h.message); is_stale = false }

    follows_so : settles f.server t post parts [] (onto v.board q) ≡ follows f.server t u k r (with_tables fewer parts) [] (onto v.board q)
    follows_so =
        ap (λ o. settles_at f.server t post.part (with_tables (without_at o (record f.parts.tables { tickets = frees h.ticket f.parts.tables.tickets })) parts) [] (onto v.board q) (waiting_at f.parts.tables o)) (g.waiting.below u (Dgram h.ticket k r found.2) found.3)
        ∙ (ap (λ o. settles_at f.server t post.part (with_tables fewer parts) [] (onto v.board q) (option_map (λ job. (u, job)) o)) found.3
        ∙ ap (λ x. settles_whole f.server t u k r post.part (with_tables fewer parts) [] (onto v.board q) x) (is_cut h.message h.cut))

    settled : Goal (settled_alone b c same_transports s t first Tied names Owns y f v z q)
    settled = subst (λ o. Goal (with_parts f (option_map (λ x. gives_rest f.server t x.0.1 x.0.0 x.1) o)))
        (sym (ap (λ ps. settles_all f.server t ps parts [] (onto v.board q)) h.put ∙ ap (option_and_then (λ x. settles_all f.server t [] x.0.0 x.0.1 x.1)) follows_so))
        (by_streams (t.send r f.parts.stream starting)
        (subst (λ n. Leads Streams_leave (t.send r f.parts.stream (asks (Start k n via.Stream) (onto [] v2)))) (sym g.server) (y.tie.sends (Untold w) f.parts.stream (onto [] v2) alone r tt tied_q (record { order = fair2.order; words = fair2.words }) octets free))
        (subst (λ n. Leads (λ m x. (q.ticket < x.ticket) × (x.more ≡ q.more)) (t.send r f.parts.stream (asks (Start k n via.Stream) (onto [] v2)))) (sym g.server) (y.drawn f.parts.stream (onto [] v2) alone w r tied_q (record { order = fair2.order; words = fair2.words }) octets free)))

    pub cut_told : Goal (with_parts f (hears_stream f.server (dgram.transport for_one) t (told w) f.parts v (record f.parts.dgram { tables = z }, q)))
    cut_told = passed_by b c same_transports s t first Tied names Owns y f v a w g fair early calm z q (then_act (made_by v.place (multi.Puts (Close h.at)) d) (record made { state = d2 })) h.leaves asks2 theirs_now.foreign (Tell b c same_transports s t first Tied names Owns y f v a w g fair early calm) settled
