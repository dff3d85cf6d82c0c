-- What a tie of a fallback owes between its calls, of those that it stands on.
use Rattle.std.proofs.Common.{◌≡◌, ℕ, ◌<◌, ◌≤◌, ◌⊎◌, inl, inr, Bool, true, false, ◌||◌, is_some, max, Option, Some, None, refl, sym, ap, subst, ◌∙◌, le_refl}
use Rattle.std.specs.Prelude.{option_and_then}
use Rattle.client_request.specs.Numbered.{entry_at}
use Rattle.client_request.specs.Request.{Request}
use Rattle.client_request.specs.View.{View, Transport}
use Rattle.client_request.specs.declared.event.Event.{Event}
use Rattle.client_request.specs.declared.event.What.{What}
use Rattle.client_request.specs.declared.event.What.TheVariants.{Ask, Tick}
use Rattle.client_dgram.specs.Plain as dgram
use Rattle.right_settings.specs.Given.{dgrams_of}
use Rattle.client_stream.specs.Plain as stream
use Rattle.client_multi.specs.Fallback as fallback
use Rattle.client_multi.specs.declared.dgram_stream.job.Job.{Job}
use Rattle.right_trace.specs.Trace.{Conf}
use Rattle.proof_right.specs.machine.Dgrams.{Dgrams, no_datagram, IsIgnored}
use Rattle.proof_right.specs.machine.Served.{Served, unserved, holds, row_begun, RestsNow}
use Rattle.proof_parts.specs.PartTie.{Phase, Untold, Told, Passed, IsNobodys, MayEnd, WasTold}
use Rattle.proof_parts.specs.Sights.{Sight, sight, NoneDue}
use Rattle.proof_parts.proofs.Tables.{rises_below, present_below}
use Rattle.proof_dgram.specs.AtServer.{with_dgrams, DgramsRest}
use Rattle.proof_dgram.specs.Slots.{names_of}
use Rattle.proof_dgram.specs.Waiting.{WaitsBelow, AtDgrams, AtStreams, number_in, ticket_at}
use Rattle.proof_dgram.specs.Fallback.{AreStreams, IsFallback, Both, names_in, OwnsEither}
use Rattle.proof_dgram.proofs.Fresh.{fresh_is_alike}
use Rattle.proof_dgram.proofs.Halves.{streams_move}
use Rattle.proof_dgram.proofs.Known.{slots_are_known}

or_first : (a b : Bool) → a ≡ true → (a || b) ≡ true
or_first true b e = refl
or_first false b e = absurd (cc)

or_last : (a b : Bool) → b ≡ true → (a || b) ≡ true
or_last true b e = refl
or_last false b e = e

either : (a b : Bool) → (a || b) ≡ true → (a ≡ true) ⊎ (b ≡ true)
either true b e = inl refl
either false b e = inr e

module _ (b c : Conf) (same_transports : b.transports ≡ c.transports) (s : ℕ) {S : Type 0} (t : Transport Request S stream.Asked) (first : S) (Tied : Phase → S → Sight → Served → Type 0) (names : S → ℕ → Option ℕ) (Owns : S → (timer : ℕ) → Type 0) (y : AreStreams b s t first Tied names Owns) where
  abbrev Falls : Phase → Both c Tied names Owns s → Sight → Served → Type 0
  Falls phase f x a = IsFallback c Tied names Owns s phase f x a

  abbrev at_first : Both c Tied names Owns s
  at_first = fallback.started s (dgram.started s (dgrams_of c)) first

  -- the half by streams holds whom the server has there
  stream_holds : (a : Served) (k : ℕ) → holds (with_dgrams no_datagram a) k ≡ true → is_some (a.server.by_stream.asks k) ≡ true
  stream_holds a k e = e

  pub fresh : (x : Sight) → x.now ≡ 0 → Falls (Told 0 0) at_first x unserved
  fresh x now =
      let z = y.tie.fresh x now in
      record {
        server = refl;
        dgram_server = refl;
        settings = refl;
        slots = fresh_is_alike c x;
        streams = z;
        waiting = record {
          waits = λ t job e. absurd (cc);
          below = λ t job e. absurd (cc);
          tickets = λ i t e. absurd (cc);
          dgrams = λ i k e. absurd (cc);
          streams = λ i k e. absurd (let w = (y.tie.named (Told 0 0) first x unserved i k z e).1 in cc);
          jobs_order = tt;
          tickets_order = tt;
        };
        timers = λ i own e. (let w = own.1 in cc);
        places = λ p k e. absurd (cc);
        apart = λ k e. absurd (cc);
        over = tt;
        quiet = λ told i due own e. absurd (let w = own.1 in cc);
      }

  module _ (phase : Phase) (f : Both c Tied names Owns s) (x : Sight) (a : Served) (g : Falls phase f x a) where
    pub same : (z : Sight) → z.now ≡ x.now → ((i : ℕ) → OwnsEither c Tied names Owns s f i → z.dues i ≡ x.dues i) → x.timer ≤ z.timer → x.ticket ≤ z.ticket → x.place ≤ z.place → Falls phase f z a
    same z now dues timer ticket place = record {
      server = g.server;
      dgram_server = g.dgram_server;
      settings = g.settings;
      slots = (slots_are_known c).same f.parts.dgram.tables a.server.by_dgram x z g.slots (λ i own. dues i (inl own)) timer ticket place;
      streams = y.tie.same phase f.parts.stream x z (with_dgrams no_datagram a) g.streams now (λ i own. dues i (inr own)) timer ticket place;
      waiting = (let w = g.waiting in record { waits = w.waits; below = w.below; tickets = w.tickets; dgrams = w.dgrams; streams = w.streams; jobs_order = rises_below (λ (e : ℕ × Job Request dgram.Asked stream.Asked). e.0) 0 x.ticket z.ticket f.parts.tables.jobs ticket w.jobs_order; tickets_order = rises_below (λ (e : ℕ × ℕ). e.0) 0 x.ticket z.ticket f.parts.tables.tickets ticket w.tickets_order });
      timers = g.timers;
      places = g.places;
      apart = g.apart;
      over = g.over;
      quiet = λ told i due own e. subst (λ n. n < due) (sym now) (g.quiet told i due own (sym (dues i (inl own)) ∙ e));
    }

    pub set : (i : ℕ) → OwnsEither c Tied names Owns s f i → (due : ℕ) × (x.dues i ≡ Some due)
    set i (inl own) = (slots_are_known c).set f.parts.dgram.tables a.server.by_dgram x i g.slots own
    set i (inr own) = y.tie.set phase f.parts.stream x (with_dgrams no_datagram a) i g.streams own

    pub named : (i k : ℕ) → names_in c Tied names Owns s f i ≡ Some k → (i < x.ticket) × (holds a k ≡ true)
    named i k e = go (entry_at i f.parts.tables.jobs) refl e
      where
        who : (job : Job Request dgram.Asked stream.Asked) → WaitsBelow ticket_at a.server.by_dgram (names_of f.parts.dgram.tables) (names f.parts.stream) job → number_in (names f.parts.stream) job ≡ Some k → holds a k ≡ true
        who _ (AtDgrams lower l r z c n at held asks) e = (let same : l ≡ k = cc in or_first (is_some (a.server.by_dgram.held k)) (is_some (a.server.by_stream.asks k)) (ap is_some (ap a.server.by_dgram.held (sym same) ∙ held)))
        who _ (AtStreams lower l z n at) e = or_last (is_some (a.server.by_dgram.held k)) (is_some (a.server.by_stream.asks k)) (stream_holds a k (y.tie.named phase f.parts.stream x (with_dgrams no_datagram a) lower k g.streams e).1)

        go : (o : Option (Job Request dgram.Asked stream.Asked)) → entry_at i f.parts.tables.jobs ≡ o → option_and_then (number_in (names f.parts.stream)) o ≡ Some k → (i < x.ticket) × (holds a k ≡ true)
        go None is n = absurd (cc)
        go (Some job) is n = (present_below i 0 x.ticket job f.parts.tables.jobs g.waiting.jobs_order is, who job (g.waiting.waits i job is) n)

    pub held : (k : ℕ) → holds a k ≡ true → (i : ℕ) × (names_in c Tied names Owns s f i ≡ Some k)
    held k e = elim (either (is_some (a.server.by_dgram.held k)) (is_some (a.server.by_stream.asks k)) e) [
      | inl at ↦ (let i = (slots_are_known c).held f.parts.dgram.tables a.server.by_dgram x k g.slots at in let w = g.waiting.dgrams i.0 k i.1 in (w.0, ap (λ o. option_and_then (number_in (names f.parts.stream)) o) w.3))
      | inr at ↦ (let i = y.tie.held phase f.parts.stream x (with_dgrams no_datagram a) k g.streams at in let w = g.waiting.streams i.0 k i.1 in (w.0, ap (λ o. option_and_then (number_in (names f.parts.stream)) o) w.2 ∙ i.1))
    ]

    -- once the event was told none of its timers is due
    pub quiet : WasTold phase → NoneDue (OwnsEither c Tied names Owns s f) x
    quiet told i due (inl own) e = g.quiet told i due own e
    quiet told i due (inr own) e = y.tie.quiet phase f.parts.stream x (with_dgrams no_datagram a) told g.streams i due own e

  -- a row begins where the last one may end, and where none of its timers is due it rests
  pub begins : (phase : Phase) (f : Both c Tied names Owns s) (x : Sight) (a : Served) (e : Event) → MayEnd phase → Falls phase f x a → Falls (Untold e.what) f (record x { now = max e.moment.0 x.now }) (row_begun e a)
  begins phase f x a e may g = record {
    server = g.server;
    dgram_server = g.dgram_server;
    settings = g.settings;
    slots = (slots_are_known c).same f.parts.dgram.tables a.server.by_dgram x (record x { now = max e.moment.0 x.now }) g.slots (λ i own. refl) (le_refl x.timer) (le_refl x.ticket) (le_refl x.place);
    streams = y.tie.begins phase f.parts.stream x (with_dgrams no_datagram a) e may g.streams;
    waiting = g.waiting;
    timers = g.timers;
    places = g.places;
    apart = g.apart;
    over = tt;
    quiet = λ told. absurd told;
  }

  -- an event of nobody is none of the datagrams'
  nobodys : (w : What) (d : Dgrams) → IsNobodys w → IsIgnored c w d
  nobodys (Ask r) d i = tt
  nobodys Tick d i = tt
  nobodys _ d i = absurd i

  is_over : (phase : Phase) (f : Both c Tied names Owns s) (x : Sight) (a : Served) → MayEnd phase → Falls phase f x a → IsIgnored c a.pending a.server.by_dgram
  is_over (Untold w) f x a may g = subst (λ w. IsIgnored c w a.server.by_dgram) (sym (y.pending (Untold w) w f.parts.stream x (with_dgrams no_datagram a) refl g.streams).0) (nobodys w a.server.by_dgram may)
  is_over (Told p left) f x a may g = g.over
  is_over (Passed w) f x a may g = subst (λ w. IsIgnored c w a.server.by_dgram) (sym (y.pending (Passed w) w f.parts.stream x (with_dgrams no_datagram a) refl g.streams).0) g.over

  pub rests : (phase : Phase) (f : Both c Tied names Owns s) (v : View) (a : Served) → MayEnd phase → NoneDue (OwnsEither c Tied names Owns s f) (sight v) → Falls phase f (sight v) a → RestsNow c a
  rests phase f v a may early g =
      let at = y.clock phase f.parts.stream (sight v) (with_dgrams no_datagram a) g.streams in
      streams_move.rests b c same_transports (with_dgrams no_datagram a) a.server.by_dgram (y.tie.rests phase f.parts.stream v (with_dgrams no_datagram a) may (λ i due own e. early i due (inr own) e) g.streams)
      (subst (λ n. DgramsRest c n a.server.by_dgram) (sym at) ((slots_are_known c).rests f.parts.dgram.tables a.server.by_dgram (sight v) g.slots (λ i due own e. early i due (inl own) e))) (is_over phase f (sight v) a may g)
