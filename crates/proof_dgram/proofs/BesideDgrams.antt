-- What a call of the datagrams leaves is settled, beside streams that stay as they are, where no answer was cut.
use Rattle.std.proofs.Common.{◌≡◌, ℕ, ◌<◌, ◌≤◌, inl, inr, true, is_some, [], ◌++◌, Option, Some, None, refl, sym, ap, subst, ◌∙◌, arith}
use Rattle.std.specs.Prelude.{option_map}
use Rattle.client_request.specs.Request.{Request}
use Rattle.client_request.specs.View.{View, Transport}
use Rattle.client_dgram.specs.Plain as dgram
use Rattle.right_settings.specs.Given.{dgrams_of}
use Rattle.client_stream.specs.Plain as stream
use Rattle.client_multi.specs.Fallback.{Parts, onto, with_tables, collects, gives_rest, with_parts}
use Rattle.client_multi.specs.declared.dgram_stream.job.Job.{Job}
use Rattle.right_trace.specs.Trace.{Conf}
use Rattle.proof_right.specs.machine.Part.{Act}
use Rattle.proof_right.specs.machine.Dgrams.{Tryer, Dgrams, no_datagram}
use Rattle.proof_right.specs.machine.Served.{Served, served}
use Rattle.proof_parts.specs.Chains.{Gives}
use Rattle.proof_parts.specs.PartTie.{Phase, WasTold, Leads, Leaves}
use Rattle.proof_parts.specs.Sights.{Sight, sight, due_of, IsFair, NoneDue}
use Rattle.proof_parts.proofs.GoingOn.{none_next}
use Rattle.proof_parts.proofs.Tables.{rises_below}
use Rattle.proof_dgram.specs.AtServer.{with_dgrams}
use Rattle.proof_dgram.specs.Calls as calls
use Rattle.proof_dgram.specs.Slots.{names_of}
use Rattle.proof_dgram.specs.Staying.{AsksTheSame}
use Rattle.proof_dgram.specs.Waiting.{AreWaiting, numbers_of, ticket_at}
use Rattle.proof_dgram.specs.Fallback.{AreStreams, IsOver, IsFallback, Both, names_in, OwnsEither}
use Rattle.proof_dgram.proofs.Admitting.{tables_change}
use Rattle.proof_dgram.proofs.Known.{slots_are_known}
use Rattle.proof_dgram.proofs.Settling.{AllWhole, AreSettled, settled_so}

-- none of the datagrams' timers is due after a call, where none was before
pub none_due_now : (c : Conf) (s z : dgram.Tables Request) (d : Dgrams) (v w : View) (made : Act Dgrams) → IsFair v → calls.Leaves c s d (onto [] v) made z w → NoneDue (calls.Owns s) (sight v) → NoneDue (calls.Owns z) (sight w)
none_due_now c s z d v w made fair l early i due own e = subst (λ n. n < due) (sym l.after.now) (elim (l.after.later i due e) [
  | inl was ↦ elim (l.apart.owned i own) [
    | inl old ↦ early i due old was
    | inr le ↦ absurd (let n : None ≡ Some due = sym (none_next v i fair le) ∙ was in cc)
  ]
  | inr new ↦ new.0
])

module _ (b c : Conf) (same_transports : b.transports ≡ c.transports) (s : ℕ) {S : Type 0} (t : Transport Request S stream.Asked) (first : S) (Tied : Phase → S → Sight → Served → Type 0) (names : S → ℕ → Option ℕ) (Owns : S → (timer : ℕ) → Type 0) (y : AreStreams b s t first Tied names Owns) where
  module _ (f : Both c Tied names Owns s) (v : View) (d e : Dgrams) (fair : IsFair v) (server : f.server ≡ s) (dgram_server : f.parts.dgram.server ≡ s) (settings : f.parts.dgram.settings ≡ (dgrams_of c)) (made : Act Dgrams) (tables : dgram.Tables Request) (w : View) (l : calls.Leaves c f.parts.dgram.tables d (onto [] v) made tables w)
      (timers : (i : ℕ) → calls.Owns f.parts.dgram.tables i → Owns f.parts.stream i → ⊥) (asks : AsksTheSame e made.state) (before after : Phase) (z : Served) (tied : Tied after f.parts.stream (sight v) (with_dgrams no_datagram z)) (places : (p k : ℕ) → d.at p ≡ Some k → z.server.by_stream.opening ≡ Some p → ⊥)
      (apart : (k : ℕ) → is_some (e.held k) ≡ true → is_some (z.server.by_stream.asks k) ≡ true → ⊥) where
    -- what stays of both halves
    its_due : (i : ℕ) → Owns f.parts.stream i → (due : ℕ) × (due_of i v.timers.set ≡ Some due)
    its_due i own = y.tie.set after f.parts.stream (sight v) (with_dgrams no_datagram z) i tied own

    pub timers_now : (i : ℕ) → calls.Owns tables i → Owns f.parts.stream i → ⊥
    timers_now i own o = elim (l.apart.owned i own) [
      | inl was ↦ timers i was o
      | inr le ↦ (let q = its_due i o in let n : None ≡ Some q.0 = sym (none_next v i fair le) ∙ q.1 in cc)
    ]

    pub tied_now : Tied after f.parts.stream (sight w) (with_dgrams no_datagram z)
    tied_now = y.tie.same after f.parts.stream (sight v) (sight w) (with_dgrams no_datagram z) tied l.after.now (λ i own. (let q = its_due i own in l.apart.others i q.0 (λ o. timers i o own) q.1 ∙ sym q.1)) l.after.timer l.after.ticket l.after.place

    not_both : (p n : ℕ) → p < n → n ≤ p → ⊥
    not_both p n lt le = omega arith

    pub places_now : (p k : ℕ) → made.state.at p ≡ Some k → z.server.by_stream.opening ≡ Some p → ⊥
    places_now p k at op = elim (l.apart.places p k at) [
      | inl was ↦ places p was.0 was.1 op
      | inr le ↦ not_both p v.place (y.opening after f.parts.stream (sight v) (with_dgrams no_datagram z) p tied op) le
    ]

    pub apart_now : (k : ℕ) → is_some (made.state.held k) ≡ true → is_some (z.server.by_stream.asks k) ≡ true → ⊥
    apart_now k is asked = go (made.state.held k) refl is
      where
        go : (o : Option Tryer) → made.state.held k ≡ o → is_some o ≡ true → ⊥
        go None h i = cc
        go (Some a) h i = (let r = asks k a h in apart k (ap is_some r.1) asked)

    abbrev pub its_dgram : dgram.Dgram Request
    its_dgram = record f.parts.dgram { tables = tables }

    module _ (later : ℕ) (named : ℕ → Option ℕ) (waiting : AreWaiting ticket_at f.parts.tables e named (names f.parts.stream) later) (le : later ≤ w.ticket) (posts : calls.Posts named (onto [] v) made tables w) (whole : AllWhole made.posts) (over : IsOver c after (with_dgrams made.state z)) (quiet : WasTold after → NoneDue (calls.Owns f.parts.dgram.tables) (sight v)) (Done : Act Served → Type 0) (done : Done (record { state = with_dgrams made.state z; place = made.place; outs = made.outs; posts = made.posts })) where
      abbrev p : Parts Request (dgram.Dgram Request) S dgram.Asked stream.Asked
      p = record f.parts { dgram = its_dgram }

      given : AreSettled f.server t e (names f.parts.stream) (names_of tables) later w.board p [] (onto v.board w) made.posts
      given = settled_so f.server t e (names f.parts.stream) (names_of tables) later [] w.board made.posts p (onto v.board w) named waiting (subst (λ ps. Gives named ps made.posts (names_of tables)) (sym posts.put) posts.gives) whole

      abbrev left : Both c Tied names Owns s
      left = record f { parts = with_tables given.tables p }

      abbrev x : View
      x = onto (v.board ++ given.posted) w

      waiting_now : AreWaiting ticket_at given.tables made.state (names_of tables) (names f.parts.stream) later
      waiting_now = tables_change.moves given.tables e made.state (names_of tables) (names f.parts.stream) later given.waiting asks (λ i k n. ((slots_are_known c).named tables made.state (sight w) i k l.slots n).1)

      falls : IsFallback c Tied names Owns s after left (sight x) (with_dgrams made.state z)
      falls = record {
        server = server;
        dgram_server = dgram_server;
        settings = settings;
        slots = l.slots;
        streams = tied_now;
        waiting = (let g = waiting_now in record { waits = g.waits; below = g.below; tickets = g.tickets; dgrams = g.dgrams; streams = g.streams; jobs_order = rises_below (λ (e : ℕ × Job Request dgram.Asked stream.Asked). e.0) 0 later w.ticket _ le g.jobs_order; tickets_order = rises_below (λ (e : ℕ × ℕ). e.0) 0 later w.ticket _ le g.tickets_order });
        timers = timers_now;
        places = places_now;
        apart = apart_now;
        over = over;
        quiet = λ told. none_due_now c f.parts.dgram.tables tables d v w made fair l (quiet told);
      }

      abbrev pub DgramsLeave : Both c Tied names Owns s → View → Type 0
      DgramsLeave = Leaves (served c) (IsFallback c Tied names Owns s) (names_in c Tied names Owns s) (OwnsEither c Tied names Owns s) Done (numbers_of f.parts.tables (names f.parts.stream)) f v after

      leaves : DgramsLeave left x
      leaves = record {
        made = record { state = with_dgrams made.state z; place = made.place; outs = made.outs; posts = made.posts };
        may = done;
        outs = l.outs;
        place = l.place;
        board = given.posted;
        put = refl;
        gives = given.gives;
        tied = falls;
        goes_on = record { fair = record { order = l.after.fair.order; words = l.after.fair.words }; now = l.after.now; timer = l.after.timer; ticket = l.after.ticket; place = l.after.place; later = l.after.later };
        owned = λ i o. elim o [ inl q ↦ elim (l.apart.owned i q) [ inl was ↦ inl (inl was) | inr le ↦ inr le ] | inr q ↦ inl (inr q) ];
        others = λ i due no e. l.apart.others i due (λ o. no (inl o)) e;
      }

      -- it is settled, and x.more is what it was
      pub dgrams_leave : Leads (λ g x. DgramsLeave g x × (x.more ≡ v.more)) (with_parts f (collects f.server t w.board [] p (onto v.board w)))
      dgrams_leave = subst (λ o. Leads (λ g x. DgramsLeave g x × (x.more ≡ v.more)) (with_parts f (option_map (λ x. gives_rest f.server t x.0.1 x.0.0 x.1) o))) (sym given.is) (leaves, l.after.more)
